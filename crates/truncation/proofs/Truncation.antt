-- From 2 ^ (prec - 1) on every value of a format is whole, so adding 2 ^ 52 to a smaller size and taking it off again leaves a whole number next to the size.
use Rattle.std.proofs.Common.{◌≡◌, ℕ, suc, ◌+◌, ◌-◌, ◌*◌, ◌/◌, ◌^◌, ◌<◌, ◌≤◌, Bool, true, false, T, ltb, ℤ, pos, sym}
use Rattle.std.proofs.Common.{refl, ap, ◌∙◌, subst, inl, inr, le_trans, le_of_eq, lt_of_lt_of_le, le_of_lt}
use Rattle.std.proofs.Common.{mul-le-mul_right, div-lt_iff_lt-mul, mul-le-mul_left}
use Rattle.std.proofs.Common.{mul-lt-mul_of_pos_right, le-div_iff_mul-le, zero-mul, mul-one}
use Rattle.std.proofs.Common.{mul_right_comm, not-le_of_lt, div-mul-le_self, le_of_mul-le-mul_right, mul-div_cancel}
use Rattle.std.proofs.Common.{arith, pow_pos, pow_mono, ltb-false, ltb-true, lt-ltb, zero-lt-suc, le-add_left}
use Rattle.std.specs.Float.{Float, nan, inf, fin, Format, binary64}
use Rattle.std.specs.Float.Ieee.{prec, low, up, down, round, add, neg, lt, below, fits, of_int, of_bits}
use Rattle.std.specs.Float.Ieee.Exact.{HasValue}
use Rattle.std.proofs.Math.Nat.{eq_of_mul-eq-mul_right, lt-div-mul-add, add-mul-div_right}
use Rattle.std.specs.Float.Ieee.Fits.{round-fits, of_int-fits, down_pos}
use Rattle.std.specs.Float.Ieee.Scale.{grid}
use Rattle.std.proofs.lemmas.Bool.{cases_lt}
use Rattle.floats.proofs.Powers.{place_moved, shl_split}
use Rattle.truncation.specs.Truncation.{truncated}
use Rattle.floats.specs.Operations.{◌⊕◌, ◌⊖◌, f0, f1, whole_from}
use Rattle.floats.proofs.Values.{value_finite, value_unique, cross, rescale, own_value, zero_value, of_int_pos}
use Rattle.floats.proofs.Arithmetic.{add_at, sum_plus}
use Rattle.floats.proofs.Comparison.{lt_at}
use Rattle.floats.proofs.Rounding.{on_grid, round_back, round_value, round_neg, grid_le, grid_ge}
use Rattle.floats.proofs.Wholes.{of_pos, whole_sub}

-- q of p + 1 digits, times 2 ^ j, reaches 2 ^ p * 2 ^ l only where j is l or more
enough_places : (q j l p : ℕ) → q < 2 ^ suc p → 2 ^ p * 2 ^ l ≤ q * 2 ^ j → l ≤ j
enough_places q j l p Q h = elim (cases_lt j l) [
  | inl a ↦
      absurd
      (not-le_of_lt (lt_of_lt_of_le (mul-lt-mul_of_pos_right Q (pow_pos j)) (le_trans (le_of_eq (place_moved p j)) (mul-le-mul_left (2 ^ p) (pow_mono a))))
      h)
  | inr b ↦ b
]

pub large_whole : (f : Format) (x : Float) (s : Bool) (a c p : ℕ) → prec f ≡ suc p → 0 < c → T (fits f x) → HasValue x s a c → 2 ^ p * c ≤ a
    → (w : ℕ) × HasValue x s w 1
large_whole f x s a c p P C fit v h =
    let g = on_grid f x fit (value_finite x s a c v) in
    let l = low f in
    let e : a * 2 ^ l ≡ g.q * 2 ^ g.j * c = cross x s g.sign a c (g.q * 2 ^ g.j) (2 ^ l) v g.value in
    let r : 2 ^ p * 2 ^ l * c ≤ g.q * 2 ^ g.j * c = le_trans (le_of_eq (mul_right_comm (2 ^ p) (2 ^ l) c)) (le_trans (mul-le-mul_right (2 ^ l) h) (le_of_eq e)) in
    let b : l ≤ g.j = enough_places g.q g.j l p (subst (λ (z : ℕ). g.q < 2 ^ z) P g.small) (le_of_mul-le-mul_right r C) in
    let w = g.q * 2 ^ (g.j - l) in
    let d : g.q * 2 ^ g.j ≡ w * 2 ^ l = shl_split g.q g.j l b in (
      w,
      rescale x s a c w 1 C
          (mul-one a ∙ eq_of_mul-eq-mul_right (2 ^ l) (pow_pos l) a (w * c) (e ∙ ap (λ (z : ℕ). z * c) d ∙ mul_right_comm w (2 ^ l) c)) v,
    )

-- a / c, 2 ^ p or more, rounds to its whole part or to one more
pub round_next : (f : Format) (a c p : ℕ) → prec f ≡ suc p → 0 < c → 2 ^ p * c ≤ a → a / c < 2 ^ prec f
    → (w : ℕ) × (round f false a c ≡ of_int f (pos w)) × (a / c ≤ w) × (w ≤ suc (a / c))
round_next f a c p P C h few =
    let n = a / c in
    let l = 2 ^ low f in
    let over : a * 1 ≤ suc n * c = omega (arith, lt-div-mul-add {a = a} C) in
    let lo = grid_ge f (of_int f (pos n)) a c n 1 C (zero-lt-suc 0) (of_int-fits f (pos n)) (of_int_pos f n (le_of_lt few)) (omega (arith, div-mul-le_self a c)) in
    let hi = grid_le f (of_int f (pos (suc n))) a c (suc n) 1 C (zero-lt-suc 0) (of_int-fits f (pos (suc n))) (of_int_pos f (suc n) few) over in
    let v = round_value f false a c hi.0 in
    let big : 2 ^ p * l ≤ grid f a c = le_trans (mul-le-mul_right l ((le-div_iff_mul-le C).1 h)) (le_trans lo (le_of_eq (mul-one (grid f a c)))) in
    let x = large_whole f (round f false a c) false (grid f a c) l p P (pow_pos (low f)) (round-fits f false a c) v big in
    let e : grid f a c * 1 ≡ x.0 * l = cross (round f false a c) false false (grid f a c) l x.0 1 v x.1 in
    let top : x.0 ≤ suc n = le_of_mul-le-mul_right (le_trans (le_of_eq (sym e)) hi.1) (pow_pos (low f)) in (
      x.0,
      value_unique f (round f false a c) (of_int f (pos x.0)) false x.0 1 (zero-lt-suc 0) (round-fits f false a c) (of_int-fits f (pos x.0)) x.1 (of_int_pos f x.0 (le_trans top few)),
      le_of_mul-le-mul_right (le_trans lo (le_of_eq e)) (pow_pos (low f)),
      top,
    )

-- ---- a size y = a / c below 2 ^ 52, and y + 2 ^ 52 - 2 ^ 52

abbrev limit : Float
limit = fin false 1 (pos 52)

limit_value : (c : ℕ) → HasValue limit false (2 ^ 52 * c) c
limit_value c = (refl, sym (mul-one (2 ^ 52 * c)))

limit_whole : limit ≡ of_int binary64 (pos (2 ^ 52))
unfolding of_int
limit_whole = refl

one_whole : fin false 1 (pos 0) ≡ of_int binary64 (pos 1)
unfolding of_int
one_whole = refl

-- what is left is the whole part, or one more
record NearWhole (m : ℕ) (e : ℤ) : Type 0 where
  k : ℕ
  is : add binary64 (fin false m e) limit ⊖ limit ≡ of_int binary64 (pos k)
  at_least : m * up e / down e ≤ k
  at_most : k ≤ suc (m * up e / down e)

near_whole : (m : ℕ) (e : ℤ) → m * up e / down e < 2 ^ 52 → NearWhole m e
near_whole m e h =
    let a = m * up e in
    let c = down e in
    let n = a / c in
    let C = down_pos e in
    let d : (a + 2 ^ 52 * c) / c ≡ n + 2 ^ 52 = add-mul-div_right a (2 ^ 52) C in
    let r = round_next binary64 (a + 2 ^ 52 * c) c 52 refl C (le-add_left (2 ^ 52 * c) a) (rw d (omega arith)) in
    let lo : n + 2 ^ 52 ≤ r.0 = le_trans (le_of_eq (sym d)) r.2 in
    let hi : r.0 ≤ suc (n + 2 ^ 52) = le_trans r.3 (le_of_eq (ap suc d)) in
    let s : add binary64 (fin false m e) limit ≡ of_int binary64 (pos r.0) =
    add_at binary64 (fin false m e) limit false a false (2 ^ 52 * c) c C (own_value false m e) (limit_value c)
    ∙ sum_plus binary64 false a (2 ^ 52 * c) c ∙ r.1 in
    record {
      k = r.0 - 2 ^ 52;
      is = ap (λ (z : Float). z ⊖ limit) s ∙ ap (λ (z : Float). of_int binary64 (pos r.0) ⊖ z) limit_whole
          ∙ whole_sub binary64 r.0 (2 ^ 52) (omega arith) (omega arith);
      at_least = omega arith;
      at_most = omega arith;
    }

-- y against the whole number k
below_whole : (m : ℕ) (e : ℤ) (k : ℕ) → k ≤ 2 ^ 53 → lt (fin false m e) (of_int binary64 (pos k)) ≡ ltb (m * up e) (k * down e)
below_whole m e k h =
    lt_at (fin false m e) (of_int binary64 (pos k)) false (m * up e) false (k * down e) (down e) (down_pos e) (own_value false m e)
    (rescale (of_int binary64 (pos k)) false k 1 (k * down e) (down e) (zero-lt-suc 0) (sym (mul-one (k * down e))) (of_int_pos binary64 k h))

limit_above : (m : ℕ) (e : ℤ) → lt (fin false m e) limit ≡ ltb (m * up e) (2 ^ 52 * down e)
limit_above m e = lt_at (fin false m e) limit false (m * up e) false (2 ^ 52 * down e) (down e) (down_pos e) (own_value false m e) (limit_value (down e))

below_limit : (m : ℕ) (e : ℤ) → lt (fin false m e) limit ≡ true → m * up e / down e < 2 ^ 52
below_limit m e h = (div-lt_iff_lt-mul (down_pos e)).1 (ltb-true (m * up e) (2 ^ 52 * down e) (sym (limit_above m e) ∙ h))

-- the two ways out of `whole_part`
module _ (m : ℕ) (e : ℤ) (small : lt (fin false m e) limit ≡ true) where
  one_less : lt (fin false m e) (add binary64 (fin false m e) limit ⊖ limit) ≡ true
      → add binary64 (fin false m e) limit ⊖ limit ⊖ fin false 1 (pos 0) ≡ truncated (fin false m e)
  unfolding truncated
  one_less h =
      let n = near_whole m e (below_limit m e small) in
      let b = below_limit m e small in
      let t : m * up e / down e < n.k = (div-lt_iff_lt-mul (down_pos e)).1 (ltb-true (m * up e) (n.k * down e) (sym (below_whole m e n.k (omega arith)) ∙ rw (← n.is) h)) in
      let q : n.k - 1 ≡ m * up e / down e = omega arith in
      ap (λ (z : Float). z ⊖ fin false 1 (pos 0)) n.is
      ∙ ap (λ (z : Float). of_int binary64 (pos n.k) ⊖ z) one_whole
      ∙ whole_sub binary64 n.k 1 (omega arith) (omega arith)
      ∙ ap (λ (z : ℕ). of_int binary64 (pos z)) q
      ∙ sym (of_pos binary64 (m * up e / down e))

  as_it_is : lt (fin false m e) (add binary64 (fin false m e) limit ⊖ limit) ≡ false
      → add binary64 (fin false m e) limit ⊖ limit ≡ truncated (fin false m e)
  unfolding truncated
  as_it_is h =
      let n = near_whole m e (below_limit m e small) in
      let b = below_limit m e small in
      let t : n.k ≤ m * up e / down e = (le-div_iff_mul-le (down_pos e)).1 (ltb-false (m * up e) (n.k * down e) (sym (below_whole m e n.k (omega arith)) ∙ rw (← n.is) h)) in
      let q : n.k ≡ m * up e / down e = omega arith in
      n.is ∙ ap (λ (z : ℕ). of_int binary64 (pos z)) q ∙ sym (of_pos binary64 (m * up e / down e))

-- ---- what the tests of the program say

-- the two results of `whole_part`
pub one_above : (y : Float) → lt f0 y ≡ true → lt y whole_from ≡ true → lt y (y ⊕ whole_from ⊖ whole_from) ≡ true
    → y ⊕ whole_from ⊖ whole_from ⊖ f1 ≡ truncated y
unfolding of_bits lt
one_above nan p q h = cc
one_above (inf true) p q h = cc
one_above (inf false) p q h = cc
one_above (fin true m e) p q h = cc
one_above (fin false m e) p q h = one_less m e q h

pub whole_already : (y : Float) → lt f0 y ≡ true → lt y whole_from ≡ true → lt y (y ⊕ whole_from ⊖ whole_from) ≡ false
    → y ⊕ whole_from ⊖ whole_from ≡ truncated y
unfolding of_bits lt
whole_already nan p q h = cc
whole_already (inf true) p q h = cc
whole_already (inf false) p q h = cc
whole_already (fin true m e) p q h = cc
whole_already (fin false m e) p q h = as_it_is m e q h

zero_digits : (a c : ℕ) → a ≤ 0 → a ≡ 0 * c
zero_digits a c h = let z : a ≡ 0 = omega arith in z ∙ sym (zero-mul c)

-- a whole value is its own whole part
whole_itself : (s : Bool) (m : ℕ) (e : ℤ) (w : ℕ) → T (fits binary64 (fin s m e)) → m * up e ≡ w * down e → fin s m e ≡ truncated (fin s m e)
unfolding truncated
whole_itself s m e w p h =
    sym (round_back binary64 (fin s m e) s w 1 (zero-lt-suc 0) p (refl, mul-one (m * up e) ∙ h))
    ∙ ap (λ (z : ℕ). round binary64 s z 1) (sym (ap (λ (z : ℕ). z / down e) h ∙ mul-div_cancel w (down_pos e)))

pub whole_truncated : (x : Float) (s : Bool) (w : ℕ) → T (fits binary64 x) → HasValue x s w 1 → x ≡ truncated x
whole_truncated nan s w p v = absurd v
whole_truncated (inf t) s w p v = absurd v
whole_truncated (fin t m e) s w p v = whole_itself t m e w p (sym (mul-one (m * up e)) ∙ v.1)

large_itself : (s : Bool) (m : ℕ) (e : ℤ) → T (fits binary64 (fin s m e)) → 2 ^ 52 * down e ≤ m * up e → fin s m e ≡ truncated (fin s m e)
large_itself s m e p h =
    let w = large_whole binary64 (fin s m e) s (m * up e) (down e) 52 refl (down_pos e) p (own_value s m e) h in
    whole_truncated (fin s m e) s w.0 p w.1

-- a test of y = a / c, with either sign, against ±2 ^ 52 and against 0
limit_below : (m : ℕ) (e : ℤ) → lt (fin true 1 (pos 52)) (fin true m e) ≡ ltb (m * up e) (2 ^ 52 * down e)
limit_below m e = lt_at (fin true 1 (pos 52)) (fin true m e) true (2 ^ 52 * down e) true (m * up e) (down e) (down_pos e) (refl, sym (mul-one (2 ^ 52 * down e))) (own_value true m e)

above_zero : (m : ℕ) (e : ℤ) → lt (fin false 0 (pos 0)) (fin false m e) ≡ ltb 0 (m * up e)
above_zero m e = lt_at (fin false 0 (pos 0)) (fin false m e) false 0 false (m * up e) (down e) (down_pos e) (zero_value (down e)) (own_value false m e)

below_zero : (s : Bool) (m : ℕ) (e : ℤ) → lt (fin s m e) (fin false 0 (pos 0)) ≡ below s (m * up e) false 0
below_zero s m e = lt_at (fin s m e) (fin false 0 (pos 0)) s (m * up e) false 0 (down e) (down_pos e) (own_value s m e) (zero_value (down e))

pub large_above : (x : Float) → T (fits binary64 x) → lt x whole_from ≡ false → x ≡ truncated x
unfolding of_bits truncated lt
large_above nan p h = refl
large_above (inf s) p h = refl
large_above (fin true m e) p h = let d = down_pos e in let k = ltb-false 0 (m * up e * 1 + 2 ^ 52 * down e) h in absurd (omega arith)
large_above (fin false m e) p h = large_itself false m e p (ltb-false (m * up e) (2 ^ 52 * down e) (sym (limit_above m e) ∙ h))

pub large_below : (x : Float) → T (fits binary64 x) → lt (neg whole_from) x ≡ false → x ≡ truncated x
unfolding of_bits truncated neg lt
large_below nan p h = refl
large_below (inf s) p h = refl
large_below (fin false m e) p h = let d = down_pos e in let k = ltb-false 0 (2 ^ 52 * down e + m * up e * 1) h in absurd (omega arith)
large_below (fin true m e) p h = large_itself true m e p (ltb-false (m * up e) (2 ^ 52 * down e) (sym (limit_below m e) ∙ h))

-- neither above 0 nor below it: a zero or NaN
pub zero_itself : (x : Float) → T (fits binary64 x) → lt f0 x ≡ false → lt x f0 ≡ false → x ≡ truncated x
unfolding of_bits truncated
zero_itself nan p q h = refl
zero_itself (inf s) p q h = refl
zero_itself (fin true m e) p q h = let k = ltb-false 0 (m * up e + 0) (sym (below_zero true m e) ∙ h) in whole_itself true m e 0 p (zero_digits (m * up e) (down e) (omega arith))
zero_itself (fin false m e) p q h = let k = ltb-false 0 (m * up e) (sym (above_zero m e) ∙ q) in whole_itself false m e 0 p (zero_digits (m * up e) (down e) (omega arith))

-- below 0 the program works on -x
pub negated_above : (x : Float) → lt x f0 ≡ true → lt f0 (neg x) ≡ true
unfolding of_bits lt neg
negated_above nan h = h
negated_above (inf true) h = refl
negated_above (inf false) h = h
negated_above (fin false m e) h = let k = ltb-true (m * up e) 0 (sym (below_zero false m e) ∙ h) in absurd (omega arith)
negated_above (fin true m e) h = let k = ltb-true 0 (m * up e + 0) (sym (below_zero true m e) ∙ h) in above_zero m e
    ∙ lt-ltb 0 (m * up e) (omega arith)

pub negated_below : (x : Float) → lt x f0 ≡ true → lt (neg whole_from) x ≡ true → lt (neg x) whole_from ≡ true
unfolding of_bits lt neg
negated_below nan p h = h
negated_below (inf true) p h = h
negated_below (inf false) p h = refl
negated_below (fin false m e) p h = let k = ltb-true (m * up e) 0 (sym (below_zero false m e) ∙ p) in absurd (omega arith)
negated_below (fin true m e) p h = limit_above m e ∙ sym (limit_below m e) ∙ h

pub negated_back : (x : Float) → neg (truncated (neg x)) ≡ truncated x
unfolding truncated neg
negated_back nan = refl
negated_back (inf true) = refl
negated_back (inf false) = refl
negated_back (fin true m e) = round_neg binary64 false (m * up e / down e) 1
negated_back (fin false m e) = round_neg binary64 true (m * up e / down e) 1

-- what `whole_part` and `trunc` take
pub ruleset trunc_laws = (one_above, whole_already, large_above, large_below, zero_itself, negated_above, negated_below, negated_back)
