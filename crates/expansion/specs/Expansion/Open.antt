-- What the definitions are, case by case. Only this crate's proofs cite these laws.
use Rattle.std.specs.Prelude.{◌≡◌, Bool, true, false, not, ◌&&◌, ◌||◌, cond, ℕ, Float}
use Rattle.std.proofs.Math.Path.{refl}
use Rattle.std.proofs.Common.{arith}
use Rattle.std.specs.Float.Ieee.{is_nan, lt, le, neg}
use Rattle.signs.specs.Signs.{infinite}
use Rattle.answer.specs.Answer.{answer_by}
use Rattle.mul_exp.specs.MulExp.{mul_exp}
use Rattle.expansion_elementary.specs.Mantissas.{mantissas}
use Rattle.expansion.specs.Constants.{order_limit, f20}
use Rattle.expansion.specs.Expansion.{refusal, pair_by, answer}

one_not_zero : ◌≡◌ {A = ℕ} 1 0 → ⊥
one_not_zero h = omega arith

four_not_zero : ◌≡◌ {A = ℕ} 4 0 → ⊥
four_not_zero h = omega arith

both_pass : (n a b i : Bool) → ◌≡◌ {A = ℕ} (cond n 1 (cond (not (a && b)) 4 (cond i 5 0))) 0 → (a ≡ true) × (b ≡ true)
both_pass n true true i h = (refl, refl)
both_pass true true false i h = absurd (one_not_zero h)
both_pass false true false i h = absurd (four_not_zero h)
both_pass true false b i h = absurd (one_not_zero h)
both_pass false false b i h = absurd (four_not_zero h)

module _ (v x : Float) where
  -- the refusal's number, test by test
  pub order_nan : is_nan v ≡ true → refusal v x ≡ 1
  unfolding refusal
  order_nan a = rw (a)

  pub argument_nan : is_nan v ≡ false → is_nan x ≡ true → refusal v x ≡ 1
  unfolding refusal
  argument_nan a b = rw (a, b)

  pub order_below : is_nan v ≡ false → is_nan x ≡ false → lt (neg order_limit) v ≡ false → refusal v x ≡ 4
  unfolding refusal
  order_below a b c = rw (a, b, c)

  pub order_above : is_nan v ≡ false → is_nan x ≡ false → lt (neg order_limit) v ≡ true → le v (neg f20) ≡ false
      → refusal v x ≡ 4
  unfolding refusal
  order_above a b c d = rw (a, b, c, d)

  pub argument_infinite : is_nan v ≡ false → is_nan x ≡ false → lt (neg order_limit) v ≡ true → le v (neg f20) ≡ true
      → infinite x ≡ true → refusal v x ≡ 5
  unfolding refusal
  argument_infinite a b c d e = rw (a, b, c, d, e)

  pub accepted : is_nan v ≡ false → is_nan x ≡ false → lt (neg order_limit) v ≡ true → le v (neg f20) ≡ true
      → infinite x ≡ false → refusal v x ≡ 0
  unfolding refusal
  accepted a b c d e = rw (a, b, c, d, e)

  pub answer_is : answer v x ≡ answer_by (refusal v x) (pair_by (mantissas v x))
  unfolding answer
  answer_is = refl

  -- the pair of an accepted request, from its mantissas
  pub pair_is : (value derivative exponent first second : Float)
      → (value ≡ (mantissas v x).0) × ((derivative ≡ (mantissas v x).1) × (exponent ≡ (mantissas v x).2))
      → (first ≡ mul_exp value exponent) × (second ≡ mul_exp derivative exponent)
      → ◌≡◌ {A = Float × Float} (first, second) (pair_by (mantissas v x))
  pair_is value derivative exponent first second (a, (b, c)) (d, e) = rw (d, e, a, b, c)

  pub in_range_law : refusal v x ≡ 0 → (lt (neg order_limit) v ≡ true) × (le v (neg f20) ≡ true)
  unfolding refusal
  in_range_law h = both_pass (is_nan v || is_nan x) (lt (neg order_limit) v) (le v (neg f20)) (infinite x) h
