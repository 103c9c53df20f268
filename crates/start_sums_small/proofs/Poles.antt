-- At the poles of Γ: where dvsa answers 0 (01, "Bottom rungs"), and what keeps 1e300, gamma2's answer there, out of V (01, "Slips").
use Rattle.std.proofs.Common.{◌≡◌, refl, sym, ap, ◌∙◌, Bool, true, false, ◌&&◌, cond, ◌⊎◌, inl, inr, ℕ, zero, suc, ◌+◌}
use Rattle.std.proofs.Common.{◌*◌, ◌%◌, ◌^◌, ◌≤◌, ◌<◌, arith, eqb, lit≤, ℤ, pos, neg_ℤ, nat_abs, Float, eq-eqb, lt-ltb}
use Rattle.std.proofs.Common.{zero-lt-suc}
use Rattle.std.specs.Float.{binary64}
use Rattle.std.specs.Float.Ieee.{add, mul, neg, of_bits}
use Rattle.std.specs.Float.Ieee.{eq}
use Rattle.std.specs.Float.Ieee.Exact.{HasValue}
use Rattle.std.specs.Float.Ieee.Scale.{round_same}
use Rattle.std.proofs.lemmas.Bool.{cases_lt}
use Rattle.floats.specs.Operations.{◌⊕◌, ◌⊖◌, ◌⊗◌, ◌⊘◌, float, whole, f0, f½, f1, f2}
use Rattle.floats.proofs.Values.{zero_value, neg_value, of_int_pos, of_int_value}
use Rattle.floats.proofs.Arithmetic.{mul_at}
use Rattle.floats.proofs.Rounding.{round_neg}
use Rattle.floats.proofs.Wholes.{of_pos}
use Rattle.truncation.proofs.Cuts.{whole_to_i32}
use Rattle.floats.proofs.Comparison.{eq_at, le_at}
use Rattle.logarithm.specs.Constants.{root2}
use Rattle.trigonometric.specs.QuarterTurns.{order_sine}
use Rattle.trigonometric.proofs.QuarterTurns.{quarter_turns}
use Rattle.gamma.specs.Constants.{pole_value}
use Rattle.gamma.specs.Gamma.{gamma2}
use Rattle.gamma.proofs.Poles.{gamma2_poles}
use Rattle.start_sums_small.specs.SmallSums.{is_pole, dvsa, dvsa_at_zero, vvsa_turn, vvsa_first}
use Rattle.start_sums_small.specs.SmallSums.Open.{dvsa_at_zero_law}

-- the source's test finds every whole number from −2^31 to 0
pub pole_found : (y : Float) (n : ℕ) → n ≤ 2 ^ 31 → HasValue y true n 1 → is_pole y ≡ true
unfolding is_pole of_bits
pole_found y zero h v =
    rw (le_at y f0 true 0 false 0 1 (zero-lt-suc 0) v (zero_value 1), whole_to_i32 y 0 h v) (eq_at y (whole 0) true 0 false 0 1 (zero-lt-suc 0) v (of_int_pos binary64 0 (lit≤ tt)))
pole_found y (suc k) h v =
    let p : suc k ≤ 2 ^ 53 = omega arith in
    rw (le_at y f0 true (suc k) false 0 1 (zero-lt-suc 0) v (zero_value 1), lt-ltb 0 (suc k + 0) (omega arith), whole_to_i32 y (suc k) h v)
    (eq_at y (float (neg_ℤ (pos (suc k)))) true (suc k) true (suc k) 1 (zero-lt-suc 0) v (of_int_value binary64 true (suc k) (omega arith) p) ∙ ap (λ (b : Bool). b && true) (eq-eqb (suc k) (suc k) refl))

-- dvsa(0, va) is 0 where 0.5·(1 − va) is a negative whole number from −2^31 on; at va = 1, where it is 0, see `dvsa_zero_one`
pub dvsa_poles : (va : Float) (n : ℕ) → n ≤ 2 ^ 31 → HasValue (f½ ⊗ (f1 ⊖ va)) true n 1 → eq va f0 ≡ false → dvsa f0 va ≡ f0
unfolding dvsa_at_zero eq of_bits
dvsa_poles va n h v o = dvsa_at_zero_law f0 va o refl ∙ rw (pole_found (f½ ⊗ (f1 ⊖ va)) n h v)

-- ---- vvsa at whole orders

-- 1 for an even m, −1 for an odd one
abbrev pub fac_of : ℕ → Float
fac_of m = cond (eqb (m % 2) 0) f1 (neg f1)

even_or_odd : (m : ℕ) → (m % 2 ≡ 0) ⊎ (m % 2 ≡ 1)
even_or_odd m = elim (cases_lt (m % 2) 1) [ inl h ↦ inl (omega arith) | inr h ↦ inr (omega arith) ]

fac_turns : (m : ℕ) → neg (fac_of m) ≡ fac_of (m + 1)
unfolding neg of_bits
fac_turns m =
    elim (even_or_odd m) [
      | inl a ↦ let b : (m + 1) % 2 ≡ 1 = omega arith in rw (a, b)
      | inr a ↦ let b : (m + 1) % 2 ≡ 0 = omega arith in rw (a, b)
    ]

-- at a whole order the weight of term m is exactly 0 where m − va is even, so that (m − va)/2 is whole, and 2 where it is odd
pub whole_order_weight : (va : ℤ) (m : ℕ) → nat_abs va ≤ 1002 → fac_of m ⊗ order_sine (float va) ⊕ f1 ≡ cond (eqb (m % 2) (nat_abs va % 2)) f0 f2
unfolding add mul neg of_bits
whole_order_weight va m h =
    rw (quarter_turns va h)
    (elim (even_or_odd m) [
      | inl a ↦ elim (even_or_odd (nat_abs va)) [ inl b ↦ rw (a, b) | inr b ↦ rw (a, b) ]
      | inr a ↦ elim (even_or_odd (nat_abs va)) [ inl b ↦ rw (a, b) | inr b ↦ rw (a, b) ]
    ])

-- 01's slip, "lets 1e300 into V": the turn of a term with an even m − va adds 0 · r · Γ, and fac goes on as fac_of says. The
-- stop test of that turn has Γ without the weight.
pub pole_turn : (x r₀ pv₀ : Float) (va : ℤ) (m : ℕ) → nat_abs va ≤ 1002 → (m + 1) % 2 ≡ nat_abs va % 2 →
    let r = r₀ ⊗ root2 ⊗ x ⊘ whole (m + 1) in
    (vvsa_turn x (float va) (order_sine (float va)) (m + 1) (r₀, fac_of m, pv₀)).1 ≡
    (r, fac_of (m + 1), pv₀ ⊕ f0 ⊗ r ⊗ gamma2 (f½ ⊗ (whole (m + 1) ⊖ float va)))
unfolding vvsa_turn
pole_turn x r₀ pv₀ va m h e = rw (fac_turns m, whole_order_weight va (m + 1) h, e, eq-eqb (nat_abs va % 2) (nat_abs va % 2) refl)

-- ---- the first term at whole orders

-- −½ · 2n is −n, exactly
half_is : (n : ℕ) → n ≤ 2 ^ 52 → neg f½ ⊗ whole (n * 2) ≡ neg (whole n)
unfolding of_bits
half_is n h =
    let a : n * 2 ≤ 2 ^ 53 = omega arith in
    let two : 0 < 2 = omega arith in
    let half : HasValue (neg f½) true 1 2 = neg_value f½ false 1 2 (refl, refl) in
    mul_at binary64 (neg f½) (whole (n * 2)) true 1 2 false (n * 2) 1 two (zero-lt-suc 0) half (of_int_pos binary64 (n * 2) a)
    ∙ round_same binary64 true (1 * (n * 2)) (2 * 1) n 1 two (zero-lt-suc 0) (omega arith)
    ∙ sym (round_neg binary64 false n 1)
    ∙ ap neg (of_pos binary64 n)

-- at an even order from 0 on, where gamma2 is at a pole, the first term of vvsa is 0: 0 times what gamma2 answers at poles
pub first_pole_term : (n : ℕ) → n ≤ 501 → (gamma2 (neg f½ ⊗ whole (n * 2)) ≡ pole_value) × (vvsa_first (whole (n * 2)) ≡ f0)
unfolding add mul neg of_bits
first_pole_term n h = (at_pole, rw (quarter_turns (pos (n * 2)) (omega arith), even) (ap (λ (g : Float). f0 ⊗ g) at_pole))
  where
    even : n * 2 % 2 ≡ 0
    even = omega arith

    at_pole : gamma2 (neg f½ ⊗ whole (n * 2)) ≡ pole_value
    at_pole = ap gamma2 (half_is n (omega arith)) ∙ gamma2_poles n (omega arith)
