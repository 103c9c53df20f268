-- Whole numbers up to 2 ^ prec in size as floats: sums, differences, products and comparisons are those of the integers.
use Rattle.std.proofs.Common.{◌≡◌, refl, sym, ap, ◌∙◌, ℕ, zero, suc, ◌+◌, ◌-◌, ◌*◌, ◌^◌, ◌≤◌, ◌<◌, le_trans}
use Rattle.std.proofs.Common.{zero-lt-suc, mul-one, zero-mul, add-zero, arith, Bool, true, false, not, ◌&&◌, ◌||◌, cond}
use Rattle.std.proofs.Common.{ℤ, pos, negsuc, nat_abs, ◌+ℤ◌, ◌-ℤ◌, T, leb, ltb, eqb, leb→le, le→leb, ltb→lt, lt→ltb}
use Rattle.std.proofs.Common.{nltb→le, Float, lt-ltb, zero-le}
use Rattle.std.specs.Float.{fin, Format}
use Rattle.std.specs.Float.Ieee.{prec, round, sum, add, sub, lt, le, fits, of_int, unlike, mul}
use Rattle.std.specs.Float.Ieee.Exact.{HasValue}
use Rattle.std.proofs.Math.Nat.{sub-zero}
use Rattle.std.specs.Float.Ieee.Back.{round_whole}
use Rattle.std.specs.Float.Ieee.Bits.{is_true}
use Rattle.std.proofs.Math.IntN.{sub_ℕ}
use Rattle.floats.proofs.Values.{of_int_pos}
use Rattle.floats.proofs.Arithmetic.{add_at, sub_at, sum_plus, sum_minus, mul_at}
use Rattle.floats.proofs.Booleans.{same_test}
use Rattle.floats.proofs.Tests.{le_of_tests}
use Rattle.floats.proofs.Comparison.{lt_at, le_at, test_of_signed_le}
use Rattle.floats.proofs.Rounding.{round_back}

-- the difference of two naturals, with its sign
int_minus : (f : Format) (a b : ℕ) → sum f false a true b 1 ≡ of_int f (sub_ℕ a b)
unfolding sum of_int
int_minus f a b = go (ltb a b) (ltb→lt a b)
  where
    go : (x : Bool) → (T x → a < b) → cond x (round f true (b - a) 1) (round f false (a - b) 1) ≡ of_int f (cond x (negsuc (b - suc a)) (pos (a - b)))
    go true h = ap (λ (z : ℕ). round f true z 1) (omega (arith, h tt))
    go false h = refl

minus_int : (f : Format) (a b : ℕ) → sum f true a false b 1 ≡ of_int f (sub_ℕ b a)
unfolding sum of_int
minus_int f a b = go (ltb a b) (ltb→lt a b) (nltb→le a b) (ltb b a) (ltb→lt b a) (nltb→le b a)
  where
    go : (x : Bool) → (T x → a < b) → (T (not x) → b ≤ a) → (y : Bool) → (T y → b < a) → (T (not y) → a ≤ b)
        → cond x (round f false (b - a) 1) (round f (true && y) (a - b) 1) ≡ of_int f (cond y (negsuc (a - suc b)) (pos (b - a)))
    go true h h' true k k' = absurd (omega (arith, h tt, k tt))
    go true h h' false k k' = refl
    go false h h' true k k' = ap (λ (z : ℕ). round f true z 1) (omega (arith, k tt))
    go false h h' false k k' = ap (λ (z : ℕ). round f false z 1) (omega (arith, h' tt, k' tt))

pub of_pos : (f : Format) (n : ℕ) → round f false n 1 ≡ of_int f (pos n)
unfolding of_int
of_pos f n = refl

of_neg : (f : Format) (n : ℕ) → round f true (suc n) 1 ≡ of_int f (negsuc n)
unfolding of_int
of_neg f n = refl

neg_whole : (f : Format) (n : ℕ) → suc n ≤ 2 ^ prec f → HasValue (of_int f (negsuc n)) true (suc n) 1
unfolding of_int
neg_whole f n h = round_whole f true (suc n) h

-- ---- x + y and x - y, for integers x and y of at most 2 ^ prec in size

pub int_add : (f : Format) (x y : ℤ) → nat_abs x ≤ 2 ^ prec f → nat_abs y ≤ 2 ^ prec f → add f (of_int f x) (of_int f y) ≡ of_int f (x +ℤ y)
int_add f (pos a) (pos b) h k = add_at f (of_int f (pos a)) (of_int f (pos b)) false a false b 1 (zero-lt-suc 0) (of_int_pos f a h) (of_int_pos f b k)
    ∙ sum_plus f false a b 1 ∙ of_pos f (a + b)
int_add f (pos a) (negsuc b) h k = add_at f (of_int f (pos a)) (of_int f (negsuc b)) false a true (suc b) 1 (zero-lt-suc 0) (of_int_pos f a h) (neg_whole f b k)
    ∙ int_minus f a (suc b)
int_add f (negsuc a) (pos b) h k = add_at f (of_int f (negsuc a)) (of_int f (pos b)) true (suc a) false b 1 (zero-lt-suc 0) (neg_whole f a h) (of_int_pos f b k)
    ∙ minus_int f (suc a) b
int_add f (negsuc a) (negsuc b) h k =
    add_at f (of_int f (negsuc a)) (of_int f (negsuc b)) true (suc a) true (suc b) 1 (zero-lt-suc 0) (neg_whole f a h) (neg_whole f b k)
    ∙ sum_plus f true (suc a) (suc b) 1
    ∙ ap (λ (z : ℕ). round f true z 1) (omega arith)
    ∙ of_neg f (suc (a + b))

none_less : (a : ℕ) → sub_ℕ 0 (suc a) ≡ negsuc a
none_less a = rw (lt-ltb 0 (suc a) (zero-lt-suc a)) (ap negsuc (omega arith))

no_more : (f : Format) (a : ℕ) → sum f false a true 0 1 ≡ of_int f (pos (a + 0))
no_more f a = sum_minus f false a 0 1 zero-le ∙ ap (λ (z : ℕ). round f false z 1) (omega arith) ∙ of_pos f (a + 0)

pub int_sub : (f : Format) (x y : ℤ) → nat_abs x ≤ 2 ^ prec f → nat_abs y ≤ 2 ^ prec f → sub f (of_int f x) (of_int f y) ≡ of_int f (x -ℤ y)
int_sub f (pos a) (pos zero) h k = sub_at f (of_int f (pos a)) (of_int f (pos 0)) false a false 0 1 (zero-lt-suc 0) (of_int_pos f a h) (of_int_pos f 0 k)
    ∙ no_more f a
int_sub f (pos a) (pos (suc b)) h k = sub_at f (of_int f (pos a)) (of_int f (pos (suc b))) false a false (suc b) 1 (zero-lt-suc 0) (of_int_pos f a h) (of_int_pos f (suc b) k) ∙ int_minus f a (suc b)
int_sub f (negsuc a) (pos zero) h k =
    sub_at f (of_int f (negsuc a)) (of_int f (pos 0)) true (suc a) false 0 1 (zero-lt-suc 0) (neg_whole f a h) (of_int_pos f 0 k) ∙ sum_plus f true (suc a) 0 1
    ∙ ap (λ (z : ℕ). round f true z 1) (add-zero (suc a)) ∙ of_neg f a ∙ ap (λ (z : ℤ). of_int f z) (sym (none_less a))
int_sub f (negsuc a) (pos (suc b)) h k =
    sub_at f (of_int f (negsuc a)) (of_int f (pos (suc b))) true (suc a) false (suc b) 1 (zero-lt-suc 0) (neg_whole f a h) (of_int_pos f (suc b) k)
    ∙ sum_plus f true (suc a) (suc b) 1 ∙ ap (λ (z : ℕ). round f true z 1) (omega arith) ∙ of_neg f (suc (a + b))
int_sub f (pos a) (negsuc b) h k = sub_at f (of_int f (pos a)) (of_int f (negsuc b)) false a true (suc b) 1 (zero-lt-suc 0) (of_int_pos f a h) (neg_whole f b k)
    ∙ sum_plus f false a (suc b) 1 ∙ of_pos f (a + suc b)
int_sub f (negsuc a) (negsuc b) h k = sub_at f (of_int f (negsuc a)) (of_int f (negsuc b)) true (suc a) true (suc b) 1 (zero-lt-suc 0) (neg_whole f a h) (neg_whole f b k) ∙ minus_int f (suc a) (suc b)

-- the difference and the product of two naturals
pub whole_sub : (f : Format) (a b : ℕ) → b ≤ a → a ≤ 2 ^ prec f → sub f (of_int f (pos a)) (of_int f (pos b)) ≡ of_int f (pos (a - b))
whole_sub f a b l h =
    sub_at f (of_int f (pos a)) (of_int f (pos b)) false a false b 1 (zero-lt-suc 0) (of_int_pos f a h) (of_int_pos f b (le_trans l h)) ∙ sum_minus f false a b 1 l
    ∙ of_pos f (a - b)

pub whole_mul : (f : Format) (a b : ℕ) → a ≤ 2 ^ prec f → b ≤ 2 ^ prec f → mul f (of_int f (pos a)) (of_int f (pos b)) ≡ of_int f (pos (a * b))
whole_mul f a b h k = mul_at f (of_int f (pos a)) (of_int f (pos b)) false a 1 false b 1 (zero-lt-suc 0) (zero-lt-suc 0) (of_int_pos f a h) (of_int_pos f b k) ∙ of_pos f (a * b)

-- comparisons of two naturals
pub whole_lt : (f : Format) (a b : ℕ) → a ≤ 2 ^ prec f → b ≤ 2 ^ prec f → lt (of_int f (pos a)) (of_int f (pos b)) ≡ ltb a b
whole_lt f a b h k = lt_at (of_int f (pos a)) (of_int f (pos b)) false a false b 1 (zero-lt-suc 0) (of_int_pos f a h) (of_int_pos f b k)

pub whole_le : (f : Format) (a b : ℕ) → a ≤ 2 ^ prec f → b ≤ 2 ^ prec f → le (of_int f (pos a)) (of_int f (pos b)) ≡ leb a b
whole_le f a b h k =
    le_at (of_int f (pos a)) (of_int f (pos b)) false a false b 1 (zero-lt-suc 0) (of_int_pos f a h) (of_int_pos f b k)
    ∙ same_test (ltb a b || (eqb a b && true)) (leb a b) (λ t. le→leb a b (le_of_tests a b t)) (λ t. test_of_signed_le false a false b (leb→le a b t))

-- ---- x * 1 and x + 0 are x, for a finite x that the format holds, not -0 in the sum

pub unlike_plus : (s : Bool) → unlike s false ≡ s
unlike_plus true = refl
unlike_plus false = refl

pub times_one : (f : Format) (x : Float) (s : Bool) (a c : ℕ) → 0 < c → T (fits f x) → HasValue x s a c → mul f x (fin false 1 (pos 0)) ≡ x
times_one f x s a c C p v =
    mul_at f x (fin false 1 (pos 0)) s a c false 1 1 C (zero-lt-suc 0) v (refl, refl)
    ∙ ap (λ (z : Bool). round f z (a * 1) (c * 1)) (unlike_plus s)
    ∙ ap (λ (z : ℕ). round f s z (c * 1)) (mul-one a)
    ∙ ap (λ (z : ℕ). round f s a z) (mul-one c)
    ∙ round_back f x s a c C p v

pub plus_zero : (f : Format) (x : Float) (s : Bool) (a c : ℕ) → 0 < c → T (fits f x) → HasValue x s a c → T (not (s && eqb a 0))
    → add f x (fin false 0 (pos 0)) ≡ x
plus_zero f x s a c C p v h = add_at f x (fin false 0 (pos 0)) s a false 0 c C v (refl, zero-mul c) ∙ go s h ∙ round_back f x s a c C p v
  where
    some : (a : ℕ) → T (not (eqb a 0)) → 0 < a
    some zero t = absurd t
    some (suc a) t = zero-lt-suc a

    go : (s : Bool) → T (not (s && eqb a 0)) → sum f s a false 0 c ≡ round f s a c
    go false h = sum_plus f false a 0 c ∙ ap (λ (z : ℕ). round f false z c) (add-zero a)
    go true h = sum_minus f true a 0 c zero-le ∙ ap (λ (z : Bool). round f z (a - 0) c) (is_true (ltb 0 a) (lt→ltb 0 a (some a h)))
        ∙ ap (λ (z : ℕ). round f true z c) (sub-zero a)
