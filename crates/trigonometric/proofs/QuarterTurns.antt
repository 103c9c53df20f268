-- The sine at whole quarter turns. With h = 2 n + 1, y is h quarter turns to within 2 ^ -41, so that near finds h, and what is left of y is at most 2 ^ -40,
-- whose cosine is exactly 1. The long numerals are the digits of the constants (ConstantValues.antt).
use Rattle.std.proofs.Common.{◌≡◌, refl, sym, ◌∙◌, ap, subst, Bool, true, false, cond, ℕ, zero, suc, ◌+◌, ◌-◌, ◌*◌, ◌/◌}
use Rattle.std.proofs.Common.{◌%◌, ◌^◌, ◌≤◌, ◌<◌, mul-pos, mul-le-mul, mul-le-mul_right, mul-lt-mul_of_pos_right}
use Rattle.std.proofs.Common.{lt_of_mul-lt-mul_right, arith, lt-ltb, eqb, lit≤, lit<, pos, negsuc, neg_ℤ, mul-one}
use Rattle.std.specs.Float.{Float, binary64}
use Rattle.std.specs.Float.Ieee.{unlike, below, neg, lt, le, round, of_bits, to_signed}
use Rattle.std.specs.Float.Ieee.Exact.{HasValue}
use Rattle.floats.specs.Operations.{◌⊕◌, ◌⊖◌, ◌⊗◌, ◌⊘◌, float, whole, f0, f½, f1, pi}
use Rattle.floats.specs.Facts.{Between, signed_int}
use Rattle.floats.proofs.Values.{rescale, neg_value, of_int_value, of_int_pos}
use Rattle.floats.proofs.Arithmetic.{sub_is, mul_at, div_at}
use Rattle.floats.proofs.Comparison.{lt_at}
use Rattle.floats.proofs.Wholes.{unlike_plus}
use Rattle.floats.proofs.Bounds.{round_between, value_between, between_value, neg_between, mul_between, plus_between, apart_between, close_between, above_zero, below_zero, cut_between, one_less}
use Rattle.near.specs.Near.{near}
use Rattle.near.proofs.NearRange.{near_is, half_value}
use Rattle.floats.proofs.Countdown.{stays}
use Rattle.trigonometric.specs.Constants.{two_over_pi, half_pi_high, half_pi_low, angle_end}
use Rattle.trigonometric.specs.Trigonometric.{quarters, angle_rest, trig_term, sine, cosine, quadrant, by_quadrant, sin}
use Rattle.trigonometric.specs.Trigonometric.Open.{trig_sum_is, cosine_is, quadrant_pos, quadrant_neg, sin_in_is, sin_is}
use Rattle.trigonometric.specs.QuarterTurns.{QuarterTurns}
use Rattle.trigonometric.proofs.ConstantValues.{one_value, pi_value, two_over_pi_value, half_pi_high_value, half_pi_low_value}

-- a product with a positive value keeps the sign
keeps : (x : Float) (s : Bool) (l u d : ℕ) → Between x (unlike s false) l u d → Between x s l u d
keeps x s l u d b = subst (λ (t : Bool). Between x t l u d) (unlike_plus s) b

-- ---- the cosine of a size of at most 2 ^ -40 is 1

-- its square
square : (r : Float) (s : Bool) → Between r s 0 2 (2 ^ 41) → Between (r ⊗ r) false 0 1 (2 ^ 60)
square r s b =
    let a = b.size in
    let c = b.over in
    let few = b.most in
    let x : a * 2 ^ 40 ≤ c = omega arith in
    let y = mul-le-mul x x in
    subst (λ (z : Float). Between z false 0 1 (2 ^ 60))
    (sym (mul_at binary64 r r s a c s a c b.positive b.positive b.value b.value ∙ ap (λ (t : Bool). round binary64 t (a * a) (c * c)) (same s)))
    (round_between false (a * a) (c * c) 0 1 60 (mul-pos b.positive b.positive) (lit< tt) (lit< tt) (lit≤ tt) (omega arith) (omega arith))
  where
    same : (s : Bool) → unlike s s ≡ false
    same true = refl
    same false = refl

-- a quotient by a whole number is no larger
quotient : (x : Float) (n : ℕ) → 0 < n → n ≤ 2 ^ 53 → Between x false 0 1 (2 ^ 60) → Between (x ⊘ whole n) false 0 1 (2 ^ 60)
quotient x n p q b =
    let a = b.size in
    let c = b.over in
    subst (λ (z : Float). Between z false 0 1 (2 ^ 60))
    (sym (div_at binary64 x (whole n) false a c false n 1 b.positive (lit< tt) p b.value (of_int_pos binary64 n q)))
    (round_between false (a * 1) (n * c) 0 1 60 (mul-pos p b.positive) (lit< tt) (lit< tt) (lit≤ tt) (omega arith) (under a c b.most))
  where
    under : (a c : ℕ) → a * 2 ^ 60 ≤ 1 * c → a * 1 * 2 ^ 60 ≤ 1 * (n * c)
    under a c h = let k = mul-le-mul_right c p in omega arith

-- one turn of the loop
one_term : (z : Float) → Between z false 0 1 (2 ^ 60) → (j : ℕ) → 1 ≤ j → j < 1 + 9 → trig_term 1 z j f1 ≡ f1
unfolding of_bits
one_term z b j p q =
    let m = 2 * j - 1 in
    let k : m ≤ 17 = omega arith in
    let l : m + 1 ≤ 18 = omega arith in
    let small = mul-le-mul k l in
    let i : 0 < m = omega arith in
    let i' : 0 < m + 1 = omega arith in
    one_less (z ⊗ f1 ⊘ whole (m * (m + 1)))
    (quotient (z ⊗ f1) (m * (m + 1)) (mul-pos i i') (omega arith)
    (mul_between z f1 false false 0 1 (2 ^ 60) 1 1 0 1 60 (lit< tt) (lit< tt) (lit< tt) (lit< tt) (lit≤ tt) b one_value (lit≤ tt) (lit≤ tt)))

cosine_one : (r : Float) (s : Bool) → Between r s 0 2 (2 ^ 41) → cosine r ≡ f1
cosine_one r s b = cosine_is r ∙ trig_sum_is 1 (r ⊗ r) ∙ stays (trig_term 1 (r ⊗ r)) 1 9 f1 (one_term (r ⊗ r) (square r s b))

-- ---- the test for the range of angles

end_over : (c : ℕ) → HasValue angle_end false (2 ^ 30 * c) c
unfolding of_bits
end_over c = (refl, sym (mul-one (2 ^ 30 * c)))

in_angle_range : (x : Float) (s : Bool) (l u d : ℕ) → 0 < d → u < 2 ^ 30 * d → Between x s l u d → (lt x angle_end ≡ true) × (lt (neg angle_end) x ≡ true)
in_angle_range x s l u d D h b =
    let c = b.over in
    let a = b.size in
    let e = end_over c in
    let k = less a c b.positive b.most in (
      lt_at x angle_end s a false (2 ^ 30 * c) c b.positive b.value e ∙ first s a (2 ^ 30 * c) k,
      lt_at (neg angle_end) x true (2 ^ 30 * c) s a c b.positive (neg_value angle_end false (2 ^ 30 * c) c e) b.value ∙ second s a (2 ^ 30 * c) k,
    )
  where
    less : (a c : ℕ) → 0 < c → a * d ≤ u * c → a < 2 ^ 30 * c
    less a c C k = lt_of_mul-lt-mul_right d (let z = mul-lt-mul_of_pos_right h C in omega arith)

    first : (s : Bool) (a m : ℕ) → a < m → below s a false m ≡ true
    first true a m k = lt-ltb 0 (a + m) (omega arith)
    first false a m k = lt-ltb a m k

    second : (s : Bool) (a m : ℕ) → a < m → below true m s a ≡ true
    second true a m k = lt-ltb a m k
    second false a m k = lt-ltb 0 (m + a) (omega arith)

-- ---- near finds a whole number that is a quarter away at most

near_whole : (x : Float) (s : Bool) (h : ℕ) → 0 < h → h < 2 ^ 20 → Between x s (h * 4 - 1) (h * 4 + 1) 4 → near x ≡ signed_int s h
near_whole x s h p q b = near_is x ∙ go s b
  where
    middle : (y : Float) (s : Bool) → HasValue y s 1 2 → Between x s (h * 4 - 1) (h * 4 + 1) 4 → to_signed 31 (x ⊕ y) ≡ signed_int s h
    middle y s v b =
        cut_between (x ⊕ y) s (h * 4 + 1) (h * 4 + 3) 4 h (lit< tt) (omega arith)
        (plus_between x y s (h * 4 - 1) (h * 4 + 1) 4 1 2 (h * 4 + 1) (h * 4 + 3) 2 (lit< tt) (lit< tt) (omega arith) (omega arith) (lit≤ tt) b v
        (omega arith) (omega arith))
        (omega arith) (omega arith)

    go : (s : Bool) → Between x s (h * 4 - 1) (h * 4 + 1) 4 → to_signed 31 (cond (le f0 x) (x ⊕ f½) (x ⊖ f½)) ≡ signed_int s h
    go false b = rw (above_zero x (h * 4 - 1) (h * 4 + 1) 4 b) (middle f½ false half_value b)
    go true b = rw (below_zero x (h * 4 - 1) (h * 4 + 1) 4 (omega arith) b, sub_is binary64 x f½) (middle (neg f½) true (neg_value f½ false 1 2 half_value) b)

-- about h * pi / 2 in units of 2 ^ -41, k times 2 over pi is about h: 3454217652357 units are just below a quarter turn
scaled_least : (h k : ℕ) → h ≤ 2005 → h * 3454217652357 ≤ k → (h * 4 - 1) * (2 ^ 41 * 2 ^ 53) ≤ k * 5734161139222659 * 2 ^ 2
scaled_least h k p q = omega arith

scaled_most : (h k : ℕ) → h ≤ 2005 → k ≤ h * 3454217652358 → k * 5734161139222659 * 2 ^ 2 ≤ (h * 4 + 1) * (2 ^ 41 * 2 ^ 53)
scaled_most h k p q = omega arith

-- ---- h quarter turns: w is h / 2, and y is w times pi

module _ (w : Float) (s : Bool) (n : ℕ) (few : n ≤ 1002) (half : HasValue w s (2 * n + 1) 2) where
  abbrev h : ℕ
  h = 2 * n + 1

  -- y, its quarter turns, the product with the high part and that with the low part, in units of 2 ^ -41
  abbrev k : ℕ
  k = h * 884279719003555 / 2 ^ 8

  abbrev high : ℕ
  high = h * (1686629713 * 2 ^ 11)

  abbrev low : ℕ
  low = h * 4701928774853425 / 2 ^ 45

  abbrev y : Float
  y = w ⊗ pi

  abbrev q : Float
  q = float (signed_int s h)

  y_between : Between y s k (k + 1) (2 ^ 41)
  y_between =
      keeps y s k (k + 1) (2 ^ 41)
      (mul_between w pi s false h h 2 884279719003555 (2 ^ 48) k (k + 1) 41 (lit< tt) (lit< tt) (omega arith) (omega arith) (lit≤ tt)
      (value_between w s h 2 (lit< tt) half) pi_value (omega arith) (omega arith))

  quarters_are : quarters y ≡ signed_int s h
  quarters_are =
      near_whole (y ⊗ two_over_pi) s h (omega arith) (omega arith)
      (keeps (y ⊗ two_over_pi) s (h * 4 - 1) (h * 4 + 1) 4
      (mul_between y two_over_pi s false k (k + 1) (2 ^ 41) 5734161139222659 (2 ^ 53) (h * 4 - 1) (h * 4 + 1) 2
      (lit< tt) (lit< tt) (omega arith) (omega arith) (lit≤ tt) y_between two_over_pi_value
      (scaled_least h k (omega arith) (omega arith)) (scaled_most h (k + 1) (omega arith) (omega arith))))

  q_between : Between q s h h 1
  q_between = value_between q s h 1 (lit< tt) (of_int_value binary64 s h (omega arith) (omega arith))

  high_between : Between (q ⊗ half_pi_high) s high high (2 ^ 41)
  high_between =
      keeps (q ⊗ half_pi_high) s high high (2 ^ 41)
      (mul_between q half_pi_high s false h h 1 1686629713 (2 ^ 30) high high 41 (lit< tt) (lit< tt) (omega arith) (omega arith) (lit≤ tt)
      q_between half_pi_high_value (omega arith) (omega arith))

  low_between : Between (q ⊗ half_pi_low) s low (low + 1) (2 ^ 41)
  low_between =
      keeps (q ⊗ half_pi_low) s low (low + 1) (2 ^ 41)
      (mul_between q half_pi_low s false h h 1 4701928774853425 (2 ^ 86) low (low + 1) 41 (lit< tt) (lit< tt) (omega arith) (omega arith) (lit≤ tt)
      q_between half_pi_low_value (omega arith) (omega arith))

  first_rest : Between (y ⊖ q ⊗ half_pi_high) s (k - high) (k + 1 - high) (2 ^ 41)
  first_rest =
      rw (sub_is binary64 y (q ⊗ half_pi_high))
      (apart_between y (neg (q ⊗ half_pi_high)) s k (k + 1) high high (k - high) (k + 1 - high) 41 (omega arith) (omega arith) (omega arith) (lit≤ tt)
      y_between (neg_between (q ⊗ half_pi_high) s high high (2 ^ 41) high_between) (omega arith) (omega arith))

  rest : (r : Bool) × Between (angle_rest y (signed_int s h)) r 0 2 (2 ^ 41)
  rest =
      rw (sub_is binary64 (y ⊖ q ⊗ half_pi_high) (q ⊗ half_pi_low))
      (close_between (y ⊖ q ⊗ half_pi_high) (neg (q ⊗ half_pi_low)) s (k - high) (k + 1 - high) low (low + 1) 2 41 (lit< tt) (lit≤ tt)
      first_rest (neg_between (q ⊗ half_pi_low) s low (low + 1) (2 ^ 41) low_between) (omega arith) (omega arith))

  cosine_is_one : cosine (angle_rest y (signed_int s h)) ≡ f1
  cosine_is_one = cosine_one (angle_rest y (signed_int s h)) rest.0 rest.1

  -- the quadrant is 1 or 3
  pub turned : sin y ≡ by_quadrant (quadrant (signed_int s h)) (sine (angle_rest y (signed_int s h))) f1 (neg (sine (angle_rest y (signed_int s h)))) (neg f1)
  turned =
      let inside = in_angle_range y s k (k + 1) (2 ^ 41) (lit< tt) (omega arith) y_between in
      rw (sin_is y, inside.0, inside.1, quarters_are, sin_in_is (quadrant (signed_int s h)) (angle_rest y (signed_int s h)), cosine_is_one)

-- for even n the quadrant of h is 1, and 3 for odd n; that of −h is the other one
odd_quadrant : (n : ℕ) → quadrant (pos (2 * n + 1)) ≡ 1 + 2 * (n % 2)
odd_quadrant n = let e : (2 * n + 1) % 4 ≡ 1 + 2 * (n % 2) = omega arith in quadrant_pos (2 * n + 1) ∙ e

odd_quadrant_below : (n : ℕ) → quadrant (neg_ℤ (pos (2 * n + 1))) ≡ 3 - 2 * (n % 2)
odd_quadrant_below n =
    let e : 2 * n + 1 ≡ suc (2 * n) = omega arith in
    let f : 3 - 2 * n % 4 ≡ 3 - 2 * (n % 2) = omega arith in
    ap (λ (i : ℕ). quadrant (neg_ℤ (pos i))) e ∙ quadrant_neg (2 * n) ∙ f

by_parity : (s : Bool) (n : ℕ) (a b c d : Float) → by_quadrant (quadrant (signed_int s (2 * n + 1))) a b c d ≡ cond (eqb (n % 2) 0) (cond s d b) (cond s b d)
by_parity true n a b c d = rw (odd_quadrant_below n) (go (n % 2) (omega arith))
  where
    go : (m : ℕ) → m < 2 → by_quadrant (3 - 2 * m) a b c d ≡ cond (eqb m 0) d b
    go zero h = refl
    go (suc zero) h = refl
    go (suc (suc m)) h = absurd (omega arith)
by_parity false n a b c d = rw (odd_quadrant n) (go (n % 2) (omega arith))
  where
    go : (m : ℕ) → m < 2 → by_quadrant (1 + 2 * m) a b c d ≡ cond (eqb m 0) b d
    go zero h = refl
    go (suc zero) h = refl
    go (suc (suc m)) h = absurd (omega arith)

-- ---- whole orders

pub quarter_turns : QuarterTurns
quarter_turns (pos n) p =
    let v : HasValue (float (pos n) ⊕ f½) false (2 * n + 1) 2 =
    between_value (float (pos n) ⊕ f½) false (2 * n + 1) 2
    (plus_between (float (pos n)) f½ false n n 1 1 2 (2 * n + 1) (2 * n + 1) 1 (lit< tt) (lit< tt) (omega arith) (omega arith) (lit≤ tt)
    (value_between (float (pos n)) false n 1 (lit< tt) (of_int_pos binary64 n (omega arith))) half_value (omega arith) (omega arith)) in
    turned (neg (float (pos n) ⊕ f½)) true n (omega arith) (neg_value (float (pos n) ⊕ f½) false (2 * n + 1) 2 v) ∙ by_parity true n _ f1 _ (neg f1)
quarter_turns (negsuc n) p =
    let e : suc n * 2 ≡ (2 * n + 2) * 1 = omega arith in
    let x = rescale (float (negsuc n)) true (suc n) 1 (2 * n + 2) 2 (lit< tt) e (of_int_value binary64 true (suc n) (omega arith) (omega arith)) in
    let v : HasValue (float (negsuc n) ⊕ f½) true (2 * n + 1) 2 =
    between_value (float (negsuc n) ⊕ f½) true (2 * n + 1) 2
    (apart_between (float (negsuc n)) f½ true (2 * n + 2) (2 * n + 2) 1 1 (2 * n + 1) (2 * n + 1) 1 (omega arith) (omega arith) (omega arith) (lit≤ tt)
    (value_between (float (negsuc n)) true (2 * n + 2) 2 (lit< tt) x) (value_between f½ false 1 2 (lit< tt) half_value) (omega arith) (omega arith)) in
    turned (neg (float (negsuc n) ⊕ f½)) false n (omega arith) (neg_value (float (negsuc n) ⊕ f½) true (2 * n + 1) 2 v)
    ∙ by_parity false n _ f1 _ (neg f1)
    ∙ other (n % 2) refl (omega arith)
  where
    other : (m : ℕ) → n % 2 ≡ m → m < 2 → cond (eqb m 0) f1 (neg f1) ≡ cond (eqb (suc n % 2) 0) (neg f1) f1
    other zero e h = let i : suc n % 2 ≡ 1 = omega arith in rw i
    other (suc zero) e h = let i : suc n % 2 ≡ 0 = omega arith in rw i
    other (suc (suc m)) e h = absurd (omega arith)
