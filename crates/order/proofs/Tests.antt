-- Tests and casts of a split's u, and its f with 0 added or taken off, as the source makes them.
use Rattle.std.proofs.Common.{◌≡◌, refl, sym, ap, ◌∙◌, subst, Bool, true, false, not, ◌&&◌, ◌||◌, ℕ, zero, suc, ◌+◌}
use Rattle.std.proofs.Common.{◌*◌, ◌/◌, ◌^◌, ◌≤◌, ◌<◌, zero-le, le_trans, le_of_eq, lt_of_lt_of_le, one-mul}
use Rattle.std.proofs.Common.{zero-mul, add-zero, mul-le-mul_right, le-add_right, arith, ne_eqb, T, ltb, eqb}
use Rattle.std.proofs.Common.{pow_pos, pos, le-ltb}
use Rattle.std.specs.Float.Ieee.{Float, fin, binary64, low, round, sum, neg, lt, le, below, fits, is_nan}
use Rattle.std.specs.Float.Ieee.{of_int, to_signed}
use Rattle.std.specs.Float.Ieee.Exact.{HasValue}
use Rattle.std.proofs.Math.Bool.{beq, and-false, or-false, not-not}
use Rattle.std.proofs.Math.Nat.{sub-zero, mul-add-div_right, div-eq_of_lt}
use Rattle.floats.specs.Operations.{◌⊕◌, ◌⊖◌, whole, f0, f1}
use Rattle.std.proofs.lemmas.Float.{T_from_false}
use Rattle.floats.proofs.Values.{value_number, neg_value, to_signed_at, zero_over}
use Rattle.floats.proofs.Arithmetic.{add_at, sub_is, sum_plus, sum_minus}
use Rattle.floats.proofs.Wholes.{plus_zero}
use Rattle.floats.proofs.Rounding.{round_back}
use Rattle.floats.proofs.Comparison.{lt_at, le_at, float_lt_total}
use Rattle.order.specs.Facts.{Split}
use Rattle.order.proofs.Facts.{one_value, capped}

-- ---- casts

-- in units of which l make 1, n whole and some more are 1 or more, and are cut to n
one_and_more : (n rest l : ℕ) → 1 ≤ n → l ≤ n * l + rest
one_and_more n rest l h = le_trans (le_of_eq (sym (one-mul l))) (le_trans (mul-le-mul_right l h) (le-add_right (n * l) rest))

cut_units : (n rest l : ℕ) → 0 < l → rest < l → (n * l + rest) / l ≡ n
cut_units n rest l p h = mul-add-div_right p n rest ∙ ap (λ (z : ℕ). n + z) (div-eq_of_lt h) ∙ add-zero n

cast : (x : Float) (n rest l : ℕ) → 0 < l → rest < l → n ≤ 1000 → HasValue x false (n * l + rest) l → to_signed 31 x ≡ pos n
cast x n rest l p h most v =
    to_signed_at 31 x false (n * l + rest) l p v
    ∙ capped false ((n * l + rest) / l) (subst (λ (z : ℕ). z ≤ 1000) (sym (cut_units n rest l p h)) most)
    ∙ ap pos (cut_units n rest l p h)

module _ {u f : Float} {n m : ℕ} where
  pub cut_above : Split false u f n m → to_signed 31 u ≡ pos n
  cut_above facts = cast u n facts.rest (2 ^ low binary64) (pow_pos (low binary64)) facts.rest_small facts.most facts.u_value

  pub cut_below : Split true u f n m → to_signed 31 (neg u) ≡ pos n
  cut_below facts =
      let l = 2 ^ low binary64 in
      cast (neg u) n facts.rest l (pow_pos (low binary64)) facts.rest_small facts.most (neg_value u true (n * l + facts.rest) l facts.u_value)

  -- u is 1 or more
  pub one_or_more : Split false u f n m → lt u f1 ≡ false
  one_or_more facts =
      let l = 2 ^ low binary64 in
      let U = n * l + facts.rest in
      lt_at u f1 false U false l l (pow_pos (low binary64)) facts.u_value (one_value l)
      ∙ le-ltb U l (one_and_more n facts.rest l facts.least)

-- ---- the side

some_units : (a : ℕ) → 0 < a → (b : Bool) → (eqb a 0 && b) ≡ false
some_units a h b = ap (λ (z : Bool). z && b) (ne_eqb a 0 (λ e. omega arith))

module _ {s : Bool} {u f : Float} {n m : ℕ} (facts : Split s u f n m) where
  abbrev l : ℕ
  l = 2 ^ low binary64

  abbrev U : ℕ
  U = n * l + facts.rest

  L : 0 < l
  L = pow_pos (low binary64)

  zero_number : T (not (is_nan f0))
  zero_number = T_from_false (is_nan f0) (value_number f0 false 0 l (zero_over l))

  -- 0 ≤ u where v ≥ 0
  pub zero_up : le f0 u ≡ not s
  zero_up = sym (not-not (le f0 u)) ∙ ap not (sym (float_lt_total u f0 (T_from_false (is_nan u) (value_number u s U l facts.u_value)) zero_number) ∙ facts.side)

  -- u ≤ 0 where v < 0
  pub zero_down : le u f0 ≡ s
  zero_down =
      le_at u f0 s U false 0 l L facts.u_value (zero_over l)
      ∙ ap (λ (b : Bool). below s U false 0 || b) (some_units U (lt_of_lt_of_le L (one_and_more n facts.rest l facts.least)) (beq s false || eqb U 0))
      ∙ or-false (below s U false 0)
      ∙ sym (lt_at u f0 s U false 0 l L facts.u_value (zero_over l))
      ∙ facts.side

-- ---- the fraction

-- no units have no sign
no_minus_zero : (s : Bool) (r : ℕ) → T (not ((s && ltb 0 r) && eqb r 0))
no_minus_zero true zero = tt
no_minus_zero false zero = tt
no_minus_zero s (suc r) = rw (ne_eqb (suc r) 0 (λ e. omega arith)) (T_from_false ((s && ltb 0 (suc r)) && false) (and-false (s && ltb 0 (suc r))))

less_zero : (x : Float) (s : Bool) (a c : ℕ) → 0 < c → T (fits binary64 x) → HasValue x s a c → x ⊖ fin false 0 (pos 0) ≡ x
unfolding neg
less_zero x s a c C p v =
    sub_is binary64 x (fin false 0 (pos 0))
    ∙ add_at binary64 x (fin true 0 (pos 0)) s a true 0 c C v (refl, zero-mul c)
    ∙ go s
    ∙ round_back binary64 x s a c C p v
  where
    go : (s : Bool) → sum binary64 s a true 0 c ≡ round binary64 s a c
    go true = sum_plus binary64 true a 0 c ∙ ap (λ (z : ℕ). round binary64 true z c) (add-zero a)
    go false = sum_minus binary64 false a 0 c zero-le ∙ ap (λ (z : ℕ). round binary64 false z c) (sub-zero a)

module _ {s : Bool} {u f : Float} {n m : ℕ} (facts : Split s u f n m) where
  pub fraction_plus_zero : f ⊕ whole 0 ≡ f
  unfolding of_int round
  fraction_plus_zero =
      plus_zero binary64 f (s && ltb 0 facts.rest) facts.rest (2 ^ low binary64) (pow_pos (low binary64)) facts.f_fits facts.f_value
      (no_minus_zero s facts.rest)

  pub fraction_less_zero : f ⊖ whole 0 ≡ f
  unfolding of_int round
  fraction_less_zero =
      less_zero f (s && ltb 0 facts.rest) facts.rest (2 ^ low binary64) (pow_pos (low binary64)) facts.f_fits facts.f_value
