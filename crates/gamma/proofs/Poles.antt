-- At the poles of Γ, where gamma2 answers 1e300 (01, "Bottom rungs").
use Rattle.std.proofs.Common.{◌≡◌, refl, ap, ◌∙◌, subst, Bool, true, false, ◌&&◌, ℕ, ◌^◌, ◌≤◌, pos, Float, eq-eqb}
use Rattle.std.proofs.Common.{zero-lt-suc}
use Rattle.std.specs.Float.{binary64}
use Rattle.std.specs.Float.Ieee.{eq, neg, of_bits}
use Rattle.std.specs.Float.Ieee.Exact.{HasValue}
use Rattle.std.specs.Float.Ieee.Fits.{neg-fits, of_int-fits}
use Rattle.floats.specs.Operations.{whole, f0}
use Rattle.floats.proofs.Values.{zero_value, neg_value, of_int_pos}
use Rattle.floats.proofs.Comparison.{lt_at, eq_at}
use Rattle.truncation.proofs.Truncation.{whole_truncated}
use Rattle.gamma.specs.Constants.{pole_value}
use Rattle.gamma.specs.Gamma.{gamma2}
use Rattle.gamma.specs.Gamma.Open.{gamma2_pole}

-- gamma2 is 1e300 at 0, −1, −2, …
pub gamma2_poles : (n : ℕ) → n ≤ 2 ^ 53 → gamma2 (neg (whole n)) ≡ pole_value
unfolding of_bits
gamma2_poles n h =
    let x = neg (whole n) in
    let v : HasValue x true n 1 = neg_value (whole n) false n 1 (of_int_pos binary64 n h) in
    let same : eq x x ≡ true = eq_at x x true n true n 1 (zero-lt-suc 0) v v ∙ ap (λ (b : Bool). b && true) (eq-eqb n n refl) in
    gamma2_pole x
    (subst (λ (y : Float). eq x y ≡ true) (whole_truncated x true n (neg-fits binary64 (whole n) (of_int-fits binary64 (pos n))) v) same)
    (lt_at f0 x false 0 true n 1 (zero-lt-suc 0) (zero_value 1) v)
