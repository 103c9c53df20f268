-- A float as an i32: within the range it is what it is as an i64, and beyond an end of the range it is that end.
use Rattle.std.proofs.Common.{◌≡◌, lit≤, w32, SFits, to_z-of_z, Bool, le-ltb, lt-ltb, lt→ltb, mul-le-mul_right, ℕ, ◌+◌}
use Rattle.std.proofs.Common.{◌*◌, ◌/◌, ◌^◌, ◌<◌, ◌≤◌, min, true, false, T, ltb, ℤ, pos, negsuc, neg_ℤ, sym, refl, ap}
use Rattle.std.proofs.Common.{◌∙◌, subst, true≢false, div-lt_iff_lt-mul, le-div_iff_mul-le, div-one, arith, ltb-false}
use Rattle.std.proofs.Common.{ltb-true, zero-lt-suc}
use Rattle.std.specs.Float.{Float, nan, inf, fin}
use Rattle.std.specs.Float.Ieee.{up, down, neg, lt, le, ne, is_nan, of_bits, to_signed}
use Rattle.std.specs.Float.Ieee.Exact.{HasValue}
use Rattle.std.proofs.Math.Nat.{min-eq_left}
use Rattle.std.specs.Int.Signed.{lt_z, non_neg}
use Rattle.std.specs.Float.Ieee.Compare.{differs_from_itself}
use Rattle.std.specs.Float.Ieee.Fits.{down_pos}
use Rattle.std.specs.Float.Ieee.Casts.{to_signed_in}
use Rattle.std.proofs.lemmas.Bool.{false_from_ne_true, true_from_ne_false}
use Rattle.std.proofs.lemmas.Float as Order
use borrow.Author.Rules.{sfits_of}
use Rattle.floats.specs.Operations.{bits, f0}
use Rattle.floats.proofs.Values.{to_signed_at}

under : (a d n : ℕ) → 0 < d → ltb (a * 1) (n * d) ≡ true → a / d < n
under a d n p h = let k = ltb-true (a * 1) (n * d) h in (div-lt_iff_lt-mul p).1 (omega arith)

over : (a d n : ℕ) → 0 < d → ltb (a * 1) (n * d) ≡ false → n ≤ a / d
over a d n p h = let k = ltb-false (a * 1) (n * d) h in (le-div_iff_mul-le p).1 (omega arith)

-- A float between two whole numbers that lie in an i64's range: what `truncating_f64_to_i64` asks
in_i64 : (a i b j : ℕ) → a * 2 ^ i ≤ 2 ^ 63 → b * 2 ^ j ≤ 2 ^ 63 → (x : Float) → lt x (fin false a (pos i)) ≡ true
    → lt (fin true b (pos j)) x ≡ true
    → T (le (fin true 1 (pos 63)) x) × T (lt x (fin false 1 (pos 63)))
unfolding lt
in_i64 a i b j ha hb nan p q = absurd (subst T (sym p) tt)
in_i64 a i b j ha hb (inf true) p q = absurd (subst T (sym q) tt)
in_i64 a i b j ha hb (inf false) p q = absurd (subst T (sym p) tt)
in_i64 a i b j ha hb (fin false m e) p q =
    let d = down_pos e in
    let h = ltb-true (m * up e * 1) (a * 2 ^ i * down e) p in
    let k = mul-le-mul_right (down e) ha in
    (Order.le_of_lt (fin true 1 (pos 63)) (fin false m e) (lt→ltb 0 (2 ^ 63 * down e + m * up e * 1) (omega arith)), lt→ltb (m * up e * 1) (2 ^ 63 * down e) (omega arith))
in_i64 a i b j ha hb (fin true m e) p q =
    let d = down_pos e in
    let h = ltb-true (m * up e * 1) (b * 2 ^ j * down e) q in
    let k = mul-le-mul_right (down e) hb in
    (Order.le_of_lt (fin true 1 (pos 63)) (fin true m e) (lt→ltb (m * up e * 1) (2 ^ 63 * down e) (omega arith)), lt→ltb 0 (m * up e * 1 + 2 ^ 63 * down e) (omega arith))

-- a float that an i32 holds is the same as an i64
pub in_i32 : (x : Float) → lt x (fin false 1 (pos 31)) ≡ true → lt (fin true 2147483649 (pos 0)) x ≡ true → to_signed 63 x ≡ to_signed 31 x
unfolding lt to_signed
in_i32 nan p q = cc
in_i32 (inf true) p q = cc
in_i32 (inf false) p q = cc
in_i32 (fin false m e) p q =
    let k = under (m * up e) (down e) 2147483648 (down_pos e) p in
    let r : min (m * up e / down e) 9223372036854775807 ≡ min (m * up e / down e) 2147483647 = omega arith in
    ap pos r
in_i32 (fin true m e) p q =
    let k = under (m * up e) (down e) 2147483649 (down_pos e) q in
    let r : min (m * up e / down e) 9223372036854775808 ≡ min (m * up e / down e) 2147483648 = omega arith in
    rw r

pub above_i32 : (x : Float) → lt x (fin false 1 (pos 31)) ≡ false → ne x x ≡ false → to_signed 31 x ≡ pos 2147483647
unfolding lt ne to_signed
above_i32 nan p q = cc
above_i32 (inf true) p q = cc
above_i32 (inf false) p q = refl
above_i32 (fin false m e) p q =
    let k = over (m * up e) (down e) 2147483648 (down_pos e) p in
    let r : min (m * up e / down e) 2147483647 ≡ 2147483647 = omega arith in
    ap pos r
above_i32 (fin true m e) p q = let d = down_pos e in let k = ltb-false 0 (m * up e * 1 + 2147483648 * down e) p in absurd (omega arith)

pub below_i32 : (x : Float) → lt x (fin false 1 (pos 31)) ≡ true → lt (fin true 2147483649 (pos 0)) x ≡ false → to_signed 31 x ≡ negsuc 2147483647
unfolding lt to_signed
below_i32 nan p q = cc
below_i32 (inf true) p q = refl
below_i32 (inf false) p q = cc
below_i32 (fin false m e) p q = let d = down_pos e in let k = ltb-false 0 (2147483649 * down e + m * up e * 1) q in absurd (omega arith)
below_i32 (fin true m e) p q =
    let k = over (m * up e) (down e) 2147483649 (down_pos e) q in
    let r : min (m * up e / down e) 2147483648 ≡ 2147483648 = omega arith in
    rw r

pub nan_to_zero : (x : Float) → ne x x ≡ true → to_signed 31 x ≡ pos 0
unfolding to_signed
nan_to_zero x p = rw (differs_from_itself x (subst T (sym p) tt))

-- ---- by the tests of `to_i32`

-- 2 ^ 31, and one more
abbrev pub top : Float
top = bits 0x41e0_0000_0000_0000

abbrev pub bottom : Float
bottom = bits 0x41e0_0000_0020_0000

module _ (x : Float) (low : lt (neg bottom) x ≡ true) (high : lt x top ≡ true) where
  pub above_i64 : T (le (fin true 1 (pos 63)) x)
  unfolding of_bits neg
  above_i64 = (in_i64 1 31 2147483649 0 (lit≤ tt) (lit≤ tt) x high low).0

  pub below_i64 : T (lt x (fin false 1 (pos 63)))
  unfolding of_bits neg
  below_i64 = (in_i64 1 31 2147483649 0 (lit≤ tt) (lit≤ tt) x high low).1

  pub as_i64 : to_signed 63 x ≡ to_signed 31 x
  unfolding of_bits neg
  as_i64 = in_i32 x high low

pub fits_i32 : (x : Float) → SFits w32 (to_signed 31 x)
fits_i32 x = sfits_of (to_signed_in 31 x)

pub not_below_zero : (x : Float) → lt x top ≡ false → lt x f0 ≡ false
unfolding lt of_bits
not_below_zero nan p = refl
not_below_zero (inf true) p = cc
not_below_zero (inf false) p = refl
not_below_zero (fin true m e) p = let d = down_pos e in let k = ltb-false 0 (m * up e * 1 + 2147483648 * down e) p in absurd (omega arith)
not_below_zero (fin false m e) p = le-ltb (m * up e * 1) (0 * down e) (omega arith)

pub under_zero : (x : Float) → lt (neg bottom) x ≡ false → is_nan x ≡ false → lt x f0 ≡ true
unfolding lt of_bits neg is_nan
under_zero nan p q = cc
under_zero (inf true) p q = refl
under_zero (inf false) p q = cc
under_zero (fin true m e) p q =
    let d = down_pos e in
    let k = over (m * up e) (down e) 2147483649 (down_pos e) p in
    lt-ltb 0 (m * up e * 1 + 0 * down e) (omega arith)
under_zero (fin false m e) p q = let d = down_pos e in let k = ltb-false 0 (2147483649 * down e + m * up e * 1) p in absurd (omega arith)

pub past_below : (x : Float) → lt (neg bottom) x ≡ false → lt x f0 ≡ true → to_signed 31 x ≡ negsuc 2147483647
unfolding of_bits neg
past_below x p q = below_i32 x (true_from_ne_false (lt x (fin false 1 (pos 31))) (λ e. true≢false (sym q ∙ not_below_zero x e))) p

-- only NaN differs from itself
same_unless_nan : (x : Float) → is_nan x ≡ false → ne x x ≡ false
unfolding is_nan
same_unless_nan x p = false_from_ne_true (ne x x) (λ e. true≢false (sym (ap is_nan (differs_from_itself x (subst T (sym e) tt))) ∙ p))

pub past_above : (x : Float) → lt x top ≡ false → is_nan x ≡ false → to_signed 31 x ≡ pos 2147483647
unfolding of_bits
past_above x p q = above_i32 x p (same_unless_nan x q)

pub zero_at_nan : (x : Float) → is_nan x ≡ true → to_signed 31 x ≡ pos 0
unfolding is_nan to_signed
zero_at_nan nan p = refl
zero_at_nan (inf s) p = cc
zero_at_nan (fin s m e) p = cc

-- what `to_i32` takes
pub ruleset cast_laws = (above_i64, below_i64, as_i64, fits_i32, not_below_zero, under_zero, past_below, past_above, zero_at_nan, to_z-of_z)

-- a whole number from −2^31 to −0.0 is cast to itself
pub whole_to_i32 : (x : Float) (n : ℕ) → n ≤ 2 ^ 31 → HasValue x true n 1 → to_signed 31 x ≡ neg_ℤ (pos n)
whole_to_i32 x n h v =
    to_signed_at 31 x true n 1 (zero-lt-suc 0) v ∙ ap (λ (k : ℕ). neg_ℤ (pos k)) (ap (λ (k : ℕ). min k (2 ^ 31)) (div-one n) ∙ min-eq_left h)

-- an integer that is not below 0 can be cast to an unsigned one
pub from_zero : (m : ℤ) → lt_z m (pos 0) ≡ false → T (non_neg m)
from_zero (pos n) h = tt
from_zero (negsuc n) h = absurd (true≢false h)
