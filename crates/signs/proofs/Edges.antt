-- What 01 says of the sign, as theorems about the definitions.
use Rattle.std.proofs.Common.{◌≡◌, refl, ℕ, Bool, false}
use Rattle.std.specs.Float.{Float, nan, inf, fin}
use Rattle.std.specs.Float.Ieee.{neg, of_bits}
use Rattle.std.specs.Float.Ieee.Exact.{HasValue}
use Rattle.floats.specs.Operations.{f0, f1}
use Rattle.signs.specs.Signs.{absolute, sign_of}

-- the absolute value is the size, with no sign
pub absolute_value : (x : Float) (s : Bool) (a c : ℕ) → HasValue x s a c → HasValue (absolute x) false a c
unfolding absolute
absolute_value nan s a c v = absurd v
absolute_value (inf t) s a c v = absurd v
absolute_value (fin t m e) s a c v = (refl, v.1)

-- At the edges, by computing: |−0| = 0; "signum of −0.0 is −1".
pub edges : (absolute (neg f0) ≡ f0) × (sign_of (neg f0) ≡ neg f1) × (sign_of f0 ≡ f1)
unfolding absolute sign_of neg of_bits
edges = (refl, refl, refl)
