-- What `ln` is, by the tests that the code makes.
use Rattle.std.proofs.Common.{◌≡◌, refl, to_z-of_z, ◌%◌, ◌/◌, sym, ap, ◌∙◌, subst, Bool, true, false, not, ◌||◌, ℕ}
use Rattle.std.proofs.Common.{zero, suc, ◌+◌, ◌*◌, ◌^◌, ◌<◌, ◌≤◌, mul-pos, zero-lt-suc, arith, ltb-true, ltb-false, T}
use Rattle.std.proofs.Common.{eqb, eqb→eq, ℤ, pos, ◌+ℤ◌, ◌-ℤ◌, neg_ℤ}
use Rattle.std.specs.Float.{Float, nan, inf, fin, binary64}
use Rattle.std.specs.Float.Ieee.{up, down, lt, eq, to_bits, of_bits, of_int, fits, is_nan, nan_bits}
use Rattle.std.proofs.Math.Bool.{beq}
use Rattle.std.proofs.Math.IntN.{+ℤ_assoc, +ℤ_comm}
use Rattle.std.specs.Float.Ieee.Fits.{up_pos, and_l}
use Rattle.floats.specs.Operations.{f0}
use Rattle.signs.proofs.Signs.{infinity_is, negative_infinity_is, nan_is}
use Rattle.logarithm.specs.Logarithm.{ln}
use Rattle.logarithm.specs.Logarithm.Open.{ln_of_parts_is, ln_nan, ln_infinite, ln_zero, ln_negative, ln_positive}
use Rattle.logarithm.specs.LnSteps.{ln_of_pattern}
use Rattle.logarithm.proofs.Significand.{normal, subnormal}

-- the next exponent
pub next_exponent : (a b : ℕ) → pos (a + 1) -ℤ pos b ≡ pos a -ℤ pos b +ℤ pos 1
next_exponent a b =
    +ℤ_assoc (pos a) (pos 1) (neg_ℤ (pos b)) ∙ ap (λ (z : ℤ). pos a +ℤ z) (+ℤ_comm (pos 1) (neg_ℤ (pos b))) ∙ sym (+ℤ_assoc (pos a) (neg_ℤ (pos b)) (pos 1))

above_zero : (n : ℕ) (e : ℤ) → 0 < suc n * up e
above_zero n e = mul-pos (zero-lt-suc n) (up_pos e)

data Finite : Float → Type 0 where
  finite : (n : ℕ) (e : ℤ) → Finite (fin false (suc n) e)

is_finite : (b : Float) → lt f0 b ≡ true → lt b (inf false) ≡ true → Finite b
unfolding lt of_bits
is_finite nan p q = absurd (subst T (sym p) tt)
is_finite (inf true) p q = absurd (subst T (sym p) tt)
is_finite (inf false) p q = absurd (subst T (sym q) tt)
is_finite (fin true n e) p q = absurd (subst T (sym p) tt)
is_finite (fin false zero e) p q = let k = ltb-true (0 * down e) (0 * up e * 1) p in absurd (omega arith)
is_finite (fin false (suc n) e) p q = finite n e

at_normal : (b : Float) → Finite b → T (fits binary64 b) → 2 ^ 52 ≤ to_bits binary64 b → ln_of_pattern (to_bits binary64 b) 1023 ≡ ln b
at_normal b (finite n e) t u = let p = normal n e t u in rw (p.significand, p.exponent, ln_positive n e)

at_subnormal : (b : Float) → Finite b → T (fits binary64 b) → to_bits binary64 b < 2 ^ 52
    → T (not (is_nan (of_int binary64 (pos (to_bits binary64 b))))) × (ln_of_pattern (to_bits binary64 (of_int binary64 (pos (to_bits binary64 b)))) 2097 ≡ ln b)
unfolding is_nan
at_subnormal b (finite n e) t u = let s = subnormal n e t u in rw s.is (tt, rw (s.has.significand, s.has.exponent, ln_positive n e))

module _ (b : Float) (above : lt f0 b ≡ true) (below : lt b (inf false) ≡ true) (held : T (fits binary64 b)) where
  pub ln_normal : 2 ^ 52 ≤ to_bits binary64 b → ln_of_pattern (to_bits binary64 b) 1023 ≡ ln b
  ln_normal = at_normal b (is_finite b above below) held

  pub subnormal_number : to_bits binary64 b < 2 ^ 52 → T (not (is_nan (of_int binary64 (pos (to_bits binary64 b)))))
  subnormal_number h = (at_subnormal b (is_finite b above below) held h).0

  pub ln_subnormal : to_bits binary64 b < 2 ^ 52 → ln_of_pattern (to_bits binary64 (of_int binary64 (pos (to_bits binary64 b)))) 2097 ≡ ln b
  ln_subnormal h = (at_subnormal b (is_finite b above below) held h).1

pub at_infinity : (b : Float) → lt f0 b ≡ true → lt b (inf false) ≡ false → b ≡ ln b
unfolding lt of_bits
at_infinity nan p q = cc
at_infinity (inf true) p q = cc
at_infinity (inf false) p q = sym (ln_infinite false)
at_infinity (fin s n e) p q = absurd (subst T q tt)

pub at_zero : (b : Float) → eq b f0 ≡ true → inf true ≡ ln b
unfolding eq of_bits
at_zero nan p = cc
at_zero (inf s) p = cc
at_zero (fin s zero e) p = sym (ln_zero s e)
at_zero (fin s (suc n) e) p =
    let a = suc n * up e * 1 in
    let k = eqb→eq a (0 * down e) (and_l (eqb a (0 * down e)) (beq s false || eqb a 0) (subst T (sym p) tt)) in
    let h = above_zero n e in
    absurd (omega arith)

zero_is : (s : Bool) (e : ℤ) → eq (fin s zero e) f0 ≡ true
unfolding eq of_bits
zero_is true e = let a : 0 * up e * 1 ≡ 0 = omega arith in let d : 0 * down e ≡ 0 = omega arith in rw (a, d)
zero_is false e = let a : 0 * up e * 1 ≡ 0 = omega arith in let d : 0 * down e ≡ 0 = omega arith in rw (a, d)

pub at_rest : (b : Float) → lt f0 b ≡ false → eq b f0 ≡ false → nan ≡ ln b
unfolding lt eq of_bits
at_rest nan p q = sym ln_nan
at_rest (inf true) p q = sym (ln_infinite true)
at_rest (inf false) p q = absurd (subst T p tt)
at_rest (fin s zero e) p q = cc (zero_is s e)
at_rest (fin true (suc n) e) p q = sym (ln_negative n e)
at_rest (fin false (suc n) e) p q =
    let k = ltb-false (0 * down e) (suc n * up e * 1) p in
    let h = above_zero n e in
    absurd (omega arith)

-- the digits of a pattern with the field 1023 are no NaN's
pub significand_number : (u : ℕ) → T (not (nan_bits binary64 (u % 4503599627370496 + 4607182418800017408)))
unfolding nan_bits
significand_number u =
    let field : (u % 4503599627370496 + 4607182418800017408) % 9223372036854775808 / 4503599627370496 ≡ 1023 = omega arith in
    rw field tt

-- what `ln` and the functions under it take
pub ruleset ln_laws = (infinity_is, negative_infinity_is, nan_is, ln_normal, subnormal_number, ln_subnormal, at_infinity, at_zero, at_rest)

pub ruleset parts_laws = (ln_of_parts_is, next_exponent, significand_number, to_z-of_z)
