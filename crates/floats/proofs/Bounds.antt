-- Bounds of a size go through the operations of binary64, where the ends are values that it holds: rounding does not cross them.
use Rattle.std.proofs.Common.{◌≡◌, refl, sym, ◌∙◌, ap, subst, ℕ, ◌+◌, ◌-◌, ◌*◌, ◌/◌, ◌^◌, ◌≤◌, ◌<◌, zero, suc, min}
use Rattle.std.proofs.Common.{Bool, true, false, not, cond, ◌&&◌, ◌||◌, le_refl, le_trans, le_antisymm, le_of_lt}
use Rattle.std.proofs.Common.{le_of_suc-le-suc, lt_of_lt_of_le, div-lt_iff_lt-mul, le-div_iff_mul-le}
use Rattle.std.proofs.Common.{mul-pos, zero-mul, mul-le-mul_right, mul-lt-mul_of_pos_right, le_of_mul-le-mul_right}
use Rattle.std.proofs.Common.{lt_of_mul-lt-mul_right, arith, lt-ltb, ne_eqb, T, ltb, eqb, lit<, pos, neg_ℤ, pow-add}
use Rattle.std.proofs.Common.{pow_mono, pow_pos, Float, mul_comm, one-mul, mul-one, zero-le}
use Rattle.std.specs.Float.{fin, binary64}
use Rattle.std.specs.Float.Ieee.{size, round, sum, neg, add, sub, mul, odd, le, fits, unlike, to_signed}
use Rattle.std.specs.Float.Ieee.Exact.{HasValue, odd_sign}
use Rattle.std.specs.Float.Ieee.Fits.{odd-fits, round-fits}
use Rattle.std.specs.Float.Ieee.Scale.{grid}
use Rattle.std.proofs.Math.Bool.{beq}
use Rattle.std.proofs.Math.Nat.{min-eq_left}
use Rattle.floats.proofs.Powers.{shl_split}
use Rattle.floats.specs.Operations.{f0}
use Rattle.floats.specs.Facts.{Between, signed_int}
use Rattle.floats.proofs.Tests.{sub_mul}
use Rattle.floats.proofs.Values.{rescale, neg_value, value_unique, to_signed_at, zero_over}
use Rattle.floats.proofs.Comparison.{le_at}
use Rattle.floats.proofs.Arithmetic.{add_at, sub_at, mul_at, sum_plus, sum_minus}
use Rattle.floats.proofs.Rounding.{round_value, grid_le, grid_ge, grid_mono}
use Rattle.floats.proofs.Monotone.{sum_sign, sum_size, sum_round}

-- ---- q / 2 ^ j with q of 53 digits is a value of binary64

record Held (q j : ℕ) : Type 0 where
  at : Float
  fit : T (fits binary64 at)
  value : HasValue at false q (2 ^ j)

held : (q j : ℕ) → q < 2 ^ 53 → j ≤ 1074 → Held q j
held q j h k =
    let room : 53 + (1074 - j) ≤ 2098 = omega arith in
    record {
      at = odd 53 false q (1074 - j) 1074;
      fit = odd-fits binary64 53 false q (1074 - j) h (le_of_lt h)
          (lt_of_lt_of_le (mul-lt-mul_of_pos_right h (pow_pos (1074 - j))) (subst (λ (z : ℕ). z ≤ 2 ^ 2098) (pow-add 2 53 (1074 - j)) (pow_mono room)));
      value = rescale (odd 53 false q (1074 - j) 1074) false (q * 2 ^ (1074 - j)) (2 ^ 1074) q (2 ^ j) (pow_pos 1074) (sym (shl_split q 1074 j k)) (odd_sign 53 false q (1074 - j) 1074);
    }

-- ---- rounding

pub round_between : (s : Bool) (a c l u j : ℕ) → 0 < c → l < 2 ^ 53 → u < 2 ^ 53 → j ≤ 1074 → l * c ≤ a * 2 ^ j → a * 2 ^ j ≤ u * c
    → Between (round binary64 s a c) s l u (2 ^ j)
round_between s a c l u j C L U J p q =
    let x = held l j L J in
    let y = held u j U J in
    let high = grid_le binary64 y.at a c u (2 ^ j) C (pow_pos j) y.fit y.value q in
    record {
      size = grid binary64 a c;
      over = 2 ^ 1074;
      positive = pow_pos 1074;
      value = round_value binary64 s a c high.0;
      least = grid_ge binary64 x.at a c l (2 ^ j) C (pow_pos j) x.fit x.value p;
      most = high.1;
    }

-- the two ends alike: the value itself
pub between_value : (x : Float) (s : Bool) (q d : ℕ) → Between x s q q d → HasValue x s q d
between_value x s q d b = let e : b.size * d ≡ q * b.over = omega (arith, b.least, b.most) in rescale x s b.size b.over q d b.positive e b.value

pub value_between : (x : Float) (s : Bool) (q d : ℕ) → 0 < d → HasValue x s q d → Between x s q q d
value_between x s q d D v = record { size = q; over = d; positive = D; value = v; least = le_refl (q * d); most = le_refl (q * d) }

pub neg_between : (x : Float) (s : Bool) (l u d : ℕ) → Between x s l u d → Between (neg x) (not s) l u d
neg_between x s l u d b =
    record { size = b.size; over = b.over; positive = b.positive; value = neg_value x s b.size b.over b.value; least = b.least; most = b.most }

-- ---- a product with a known value

scale_least : (l c a d b e k j : ℕ) → 0 < d → l * c ≤ a * d → k * (d * e) ≤ l * b * j → k * (c * e) ≤ a * b * j
scale_least l c a d b e k j D p q =
    let m = mul-le-mul_right (b * j) p in
    let n = mul-le-mul_right c q in
    le_of_mul-le-mul_right {k = d} (omega arith) D

scale_most : (u c a d b e k j : ℕ) → 0 < d → a * d ≤ u * c → u * b * j ≤ k * (d * e) → a * b * j ≤ k * (c * e)
scale_most u c a d b e k j D p q =
    let m = mul-le-mul_right (b * j) p in
    let n = mul-le-mul_right c q in
    le_of_mul-le-mul_right {k = d} (omega arith) D

pub mul_between : (x y : Float) (s t : Bool) (l u d b e l' u' j : ℕ) → 0 < d → 0 < e → l' < 2 ^ 53 → u' < 2 ^ 53 → j ≤ 1074
    → Between x s l u d → HasValue y t b e → l' * (d * e) ≤ l * b * 2 ^ j → u * b * 2 ^ j ≤ u' * (d * e)
    → Between (mul binary64 x y) (unlike s t) l' u' (2 ^ j)
mul_between x y s t l u d b e l' u' j D E L U J w v p q =
    subst (λ (z : Float). Between z (unlike s t) l' u' (2 ^ j)) (sym (mul_at binary64 x y s w.size w.over t b e w.positive E w.value v))
    (round_between (unlike s t) (w.size * b) (w.over * e) l' u' j (mul-pos w.positive E) L U J
    (scale_least l w.over w.size d b e l' (2 ^ j) D w.least p) (scale_most u w.over w.size d b e u' (2 ^ j) D w.most q))

-- ---- sums and differences of values a / c and b / e, both over c * e

sum_over : (x y : Float) (s : Bool) (a c : ℕ) (t : Bool) (b e : ℕ) → 0 < c → 0 < e → HasValue x s a c → HasValue y t b e
    → add binary64 x y ≡ sum binary64 s (a * e) t (b * c) (c * e)
sum_over x y s a c t b e C E v w =
    add_at binary64 x y s (a * e) t (b * c) (c * e) (mul-pos C E) (rescale x s a c (a * e) (c * e) C (omega arith) v) (rescale y t b e (b * c) (c * e) E (omega arith) w)

-- the size of a sum is at most the sum of the sizes
size_most : (s : Bool) (a : ℕ) (t : Bool) (b : ℕ) → sum_size s a t b ≤ a + b
size_most s a t b = go (beq s t) (ltb a b)
  where
    go : (x y : Bool) → cond x (a + b) (cond y (b - a) (a - b)) ≤ a + b
    go true y = omega arith
    go false true = omega arith
    go false false = omega arith

sum_least : (l c a d b e k j : ℕ) → 0 < d → l * c ≤ a * d → k * (d * e) ≤ (l * e + b * d) * j → k * (c * e) ≤ (a * e + b * c) * j
sum_least l c a d b e k j D p q =
    let m = mul-le-mul_right (e * j) p in
    let n = mul-le-mul_right c q in
    le_of_mul-le-mul_right {k = d} (omega arith) D

sum_most : (u c a d b e k j : ℕ) → 0 < d → a * d ≤ u * c → (u * e + b * d) * j ≤ k * (d * e) → (a * e + b * c) * j ≤ k * (c * e)
sum_most u c a d b e k j D p q =
    let m = mul-le-mul_right (e * j) p in
    let n = mul-le-mul_right c q in
    le_of_mul-le-mul_right {k = d} (omega arith) D

-- of one sign
pub plus_between : (x y : Float) (s : Bool) (l u d b e l' u' j : ℕ) → 0 < d → 0 < e → l' < 2 ^ 53 → u' < 2 ^ 53 → j ≤ 1074
    → Between x s l u d → HasValue y s b e → l' * (d * e) ≤ (l * e + b * d) * 2 ^ j → (u * e + b * d) * 2 ^ j ≤ u' * (d * e)
    → Between (add binary64 x y) s l' u' (2 ^ j)
plus_between x y s l u d b e l' u' j D E L U J w v p q =
    let a = w.size in
    let c = w.over in
    let C = w.positive in
    subst (λ (z : Float). Between z s l' u' (2 ^ j))
    (sym (sum_over x y s a c s b e C E w.value v ∙ sum_plus binary64 s (a * e) (b * c) (c * e)))
    (round_between s (a * e + b * c) (c * e) l' u' j (mul-pos C E) L U J
    (sum_least l c a d b e l' (2 ^ j) D w.least p) (sum_most u c a d b e u' (2 ^ j) D w.most q))

-- of any signs, by a size that is no smaller
at_most : (x y : Float) (s : Bool) (a c : ℕ) (t : Bool) (b e u j : ℕ) → 0 < c → 0 < e → u < 2 ^ 53 → j ≤ 1074 → HasValue x s a c → HasValue y t b e
    → sum_size s (a * e) t (b * c) * 2 ^ j ≤ u * (c * e) → (r : Bool) × Between (add binary64 x y) r 0 u (2 ^ j)
at_most x y s a c t b e u j C E U J w v q =
    let n = sum_size s (a * e) t (b * c) in
    let r = sum_sign s (a * e) t (b * c) in (
      r,
      subst (λ (z : Float). Between z r 0 u (2 ^ j))
          (sym (sum_over x y s a c t b e C E w v ∙ sum_round binary64 s (a * e) t (b * c) (c * e)))
          (round_between r n (c * e) 0 u j (mul-pos C E) (pow_pos 53) U J (subst (λ (z : ℕ). z ≤ n * 2 ^ j) (sym (zero-mul (c * e))) zero-le) q),
    )

pub any_between : (x y : Float) (s t : Bool) (u d b e u' j : ℕ) → 0 < d → 0 < e → u' < 2 ^ 53 → j ≤ 1074
    → Between x s 0 u d → HasValue y t b e → (u * e + b * d) * 2 ^ j ≤ u' * (d * e) → (r : Bool) × Between (add binary64 x y) r 0 u' (2 ^ j)
any_between x y s t u d b e u' j D E U J w v q =
    let a = w.size in
    let c = w.over in
    at_most x y s a c t b e u' j w.positive E U J w.value v
    (le_trans (mul-le-mul_right (2 ^ j) (size_most s (a * e) t (b * c))) (sum_most u c a d b e u' (2 ^ j) D w.most q))

-- ---- differences, of two sizes over one denominator

-- a e is less than b c by no more than w c e, where a / c ≥ l / k, b / e ≤ n / k and n ≤ l + w
difference_most : (l c a k n e b w : ℕ) → l * c ≤ a * k → b * k ≤ n * e → n ≤ l + w → b * c * k ≤ a * e * k + w * (c * e)
difference_most l c a k n e b w p q h =
    let x = mul-le-mul_right e p in
    let y = mul-le-mul_right c q in
    let z = mul-le-mul_right (c * e) h in
    omega arith

pub close_between : (x y : Float) (s : Bool) (l u m n w j : ℕ) → w < 2 ^ 53 → j ≤ 1074
    → Between x s l u (2 ^ j) → Between y (not s) m n (2 ^ j) → u ≤ m + w → n ≤ l + w → (r : Bool) × Between (add binary64 x y) r 0 w (2 ^ j)
close_between x y s l u m n w j W J f g p q =
    let a = f.size in
    let c = f.over in
    let b = g.size in
    let e = g.over in
    at_most x y s a c (not s) b e w j f.positive g.positive W J f.value g.value
    (size s (a * e) (b * c) (2 ^ j) (w * (c * e))
    (subst (λ (z : ℕ). a * e * 2 ^ j ≤ b * c * 2 ^ j + w * z) (mul_comm e c) (difference_most m e b (2 ^ j) u c a w g.least f.most p))
    (difference_most l c a (2 ^ j) n e b w f.least g.most q))
  where
    size : (s : Bool) (i i' k v : ℕ) → i * k ≤ i' * k + v → i' * k ≤ i * k + v → sum_size s i (not s) i' * k ≤ v
    size s i i' k v p q = go s (ltb i i')
      where
        over : (i - i') * k ≤ v
        over = rw (sub_mul i i' k) (omega arith)

        under : (i' - i) * k ≤ v
        under = rw (sub_mul i' i k) (omega arith)

        go : (s t : Bool) → cond (beq s (not s)) (i + i') (cond t (i' - i) (i - i')) * k ≤ v
        go true true = under
        go true false = over
        go false true = under
        go false false = over

-- the first is the larger: its sign stays
pub apart_between : (x y : Float) (s : Bool) (l u m n l' u' j : ℕ) → 0 < l' → l' < 2 ^ 53 → u' < 2 ^ 53 → j ≤ 1074
    → Between x s l u (2 ^ j) → Between y (not s) m n (2 ^ j) → l' + n ≤ l → u ≤ m + u' → Between (add binary64 x y) s l' u' (2 ^ j)
apart_between x y s l u m n l' u' j P L U J f g p q =
    let a = f.size in
    let c = f.over in
    let b = g.size in
    let e = g.over in
    let C = f.positive in
    let E = g.positive in
    let k = more a c b e (2 ^ j) f.least g.most in
    let t = first (a * e) (b * c) (l' * (c * e)) (2 ^ j) (mul-pos P (mul-pos C E)) k in
    subst (λ (z : Float). Between z s l' u' (2 ^ j))
    (sym (sum_over x y s a c (not s) b e C E f.value g.value
    ∙ sum_minus binary64 s (a * e) (b * c) (c * e) (le_of_lt t)
    ∙ ap (λ (z : Bool). round binary64 z (a * e - b * c) (c * e)) (kept s (a * e) (b * c) t)))
    (round_between s (a * e - b * c) (c * e) l' u' j (mul-pos C E) L U J
    (rw (sub_mul (a * e) (b * c) (2 ^ j)) (omega (arith, k)))
    (rw (sub_mul (a * e) (b * c) (2 ^ j)) (upper a c b e (2 ^ j) f.most g.least)))
  where
    more : (a c b e k : ℕ) → l * c ≤ a * k → b * k ≤ n * e → b * c * k + l' * (c * e) ≤ a * e * k
    more a c b e k h i =
        let x = mul-le-mul_right e h in
        let y = mul-le-mul_right c i in
        let z = mul-le-mul_right (c * e) p in
        omega arith

    upper : (a c b e k : ℕ) → a * k ≤ u * c → m * e ≤ b * k → a * e * k - b * c * k ≤ u' * (c * e)
    upper a c b e k h i =
        let x = mul-le-mul_right e h in
        let y = mul-le-mul_right c i in
        let z = mul-le-mul_right (c * e) q in
        omega arith

    first : (i i' v k : ℕ) → 0 < v → i' * k + v ≤ i * k → i' < i
    first i i' v k P h = lt_of_mul-lt-mul_right k (omega arith)

    kept : (s : Bool) (i i' : ℕ) → i' < i → (s && ltb i' i) ≡ s
    kept true i i' h = lt-ltb i' i h
    kept false i i' h = refl

-- ---- the test against 0

pub above_zero : (x : Float) (l u d : ℕ) → Between x false l u d → le f0 x ≡ true
above_zero x l u d b = le_at f0 x false 0 false b.size b.over b.positive (zero_over b.over) b.value ∙ go b.size
  where
    go : (a : ℕ) → (ltb 0 a || (eqb 0 a && true)) ≡ true
    go zero = refl
    go (suc a) = rw (lt-ltb 0 (suc a) (omega arith))

pub below_zero : (x : Float) (l u d : ℕ) → 0 < l → Between x true l u d → le f0 x ≡ false
below_zero x l u d L b =
    le_at f0 x false 0 true b.size b.over b.positive (zero_over b.over) b.value ∙ go b.size b.over b.positive b.least
  where
    go : (a c : ℕ) → 0 < c → l * c ≤ a * d → (false || (eqb 0 a && (false || true))) ≡ false
    go zero c C h = let k = mul-pos L C in absurd (omega arith)
    go (suc a) c C h = rw (ne_eqb 0 (suc a) (λ e. omega arith))

-- ---- cut towards zero: the size between h and h + 1

pub cut_between : (x : Float) (s : Bool) (l u d h : ℕ) → 0 < d → h < 2 ^ 31 → Between x s l u d → h * d ≤ l → u < (h + 1) * d
    → to_signed 31 x ≡ signed_int s h
cut_between x s l u d h D H w p q =
    to_signed_at 31 x s w.size w.over w.positive w.value
    ∙ ap (λ (z : ℕ). cond s (neg_ℤ (pos (min z (2 ^ 31)))) (pos (min z (2 ^ 31 - 1)))) (whole w.size w.over w.positive w.least w.most)
    ∙ ap (λ (z : ℕ). cond s (neg_ℤ (pos z)) (pos (min h (2 ^ 31 - 1)))) (min-eq_left {m = 2147483648} (omega arith))
    ∙ ap (λ (z : ℕ). cond s (neg_ℤ (pos h)) (pos z)) (min-eq_left {m = 2147483647} (omega arith))
  where
    whole : (a c : ℕ) → 0 < c → l * c ≤ a * d → a * d ≤ u * c → a / c ≡ h
    whole a c C i k = le_antisymm (le_of_suc-le-suc ((div-lt_iff_lt-mul C).1 high)) ((le-div_iff_mul-le C).1 low)
      where
        low : h * c ≤ a
        low = le_of_mul-le-mul_right {k = d} (let y = mul-le-mul_right c p in omega arith) D

        high : a < suc h * c
        high = lt_of_mul-lt-mul_right d (let y = mul-lt-mul_of_pos_right q C in omega arith)

-- ---- 1 less a size of at most 2 ^ -60 is 1 again

-- both ends, 1 - 2 ^ -60 and 1, round to 1
low_end : grid binary64 (2 ^ 60 - 1) (2 ^ 60) ≡ 2 ^ 1074
unfolding size
low_end = refl

high_end : grid binary64 1 1 ≡ 2 ^ 1074
unfolding size
high_end = refl

rounds_to_one : (n c : ℕ) → 0 < c → (2 ^ 60 - 1) * c ≤ n * (2 ^ 60) → n * 1 ≤ 1 * c → round binary64 false n c ≡ fin false 1 (pos 0)
unfolding fits
rounds_to_one n c C p q =
    let high = grid_mono binary64 n c 1 1 C (lit< tt) q (subst (λ (z : ℕ). z < 2 ^ 2098) (sym high_end) (lit< tt)) in
    let low = grid_mono binary64 (2 ^ 60 - 1) (2 ^ 60) n c (lit< tt) C p high.0 in
    let is : grid binary64 n c ≡ 2 ^ 1074 =
    le_antisymm (subst (λ (z : ℕ). grid binary64 n c ≤ z) high_end high.1) (subst (λ (z : ℕ). z ≤ grid binary64 n c) low_end low.1) in
    value_unique binary64 (round binary64 false n c) (fin false 1 (pos 0)) false (2 ^ 1074) (2 ^ 1074) (pow_pos 1074) (round-fits binary64 false n c) tt
    (subst (λ (z : ℕ). HasValue (round binary64 false n c) false z (2 ^ 1074)) is (round_value binary64 false n c high.0)) (refl, refl)

pub one_less : (w : Float) → Between w false 0 1 (2 ^ 60) → sub binary64 (fin false 1 (pos 0)) w ≡ fin false 1 (pos 0)
one_less w b =
    let a = b.size in
    let c = b.over in
    let few = b.most in
    let low : (2 ^ 60 - 1) * c ≤ (c - a) * (2 ^ 60) = rw (sub_mul c a (2 ^ 60)) (omega arith) in
    sub_at binary64 (fin false 1 (pos 0)) w false c false a c b.positive (refl, one-mul c ∙ sym (mul-one c)) b.value
    ∙ sum_minus binary64 false c a c (omega arith)
    ∙ rounds_to_one (c - a) c b.positive low (omega arith)
