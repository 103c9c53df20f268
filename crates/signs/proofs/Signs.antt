-- What each test of a program says of NaN, of the infinities and of the sign.
use Rattle.std.proofs.Common.{◌≡◌, refl, sym, ap, ◌∙◌, subst, ℕ, ◌+◌, ◌*◌, ◌%◌, ◌<◌, ◌≤◌, mod-eq_of_lt, arith, Bool}
use Rattle.std.proofs.Common.{true, false, not, ◌&&◌, cond, eq-eqb, eqb-true, le-ltb, ltb-true, T, eqb, ℤ}
use Rattle.std.specs.Float.{Float, nan, inf, fin, binary64, float_is_infinite}
use Rattle.std.specs.Float.Ieee.{up, down, neg, lt, ne, fits, is_nan, nan_bits, of_bits, to_bits}
use Rattle.std.proofs.Math.Nat.{add-mod_left}
use Rattle.std.specs.Float.Ieee.Bits.{of_bits-to_bits, to_bits-lt, nan_bits_is}
use Rattle.std.specs.Float.Ieee.Compare.{differs_from_itself}
use Rattle.std.specs.Float.Ieee.Fits.{neg-fits}
use Rattle.signs.specs.Signs.{alike, absolute, infinite, sign_of}
use Rattle.floats.specs.Operations.{bits, f0, f1}
pub use Rattle.floats.proofs.Values.{nan_is}

-- ---- NaN and the infinities

pub nan_test : (x : Float) → ne x x ≡ is_nan x
unfolding ne is_nan
nan_test nan = refl
nan_test (inf true) = refl
nan_test (inf false) = refl
nan_test (fin true m e) = rw (eq-eqb (m * up e * down e) (m * up e * down e) refl)
nan_test (fin false m e) = rw (eq-eqb (m * up e * down e) (m * up e * down e) refl)

pub no_nan : (x : Float) → ne x x ≡ false → T (not (is_nan x))
no_nan x h = rw (← nan_test x, h) tt

-- the constants of f64
pub infinity_is : bits 0x7ff0_0000_0000_0000 ≡ inf false
unfolding of_bits
infinity_is = refl

pub negative_infinity_is : bits 0xfff0_0000_0000_0000 ≡ inf true
unfolding of_bits
negative_infinity_is = refl

-- the library's test
pub infinite_is : (x : Float) → float_is_infinite x ≡ infinite x
unfolding float_is_infinite infinite
infinite_is nan = refl
infinite_is (inf s) = refl
infinite_is (fin s m e) = refl

-- ---- floats that are alike are equal: values that fit are told apart by their patterns, and there is one NaN

is_nan_law : (x : Float) → ne x x ≡ true → x ≡ nan
is_nan_law x h = differs_from_itself x (rw h tt)

pub no_number : (x : Float) → is_nan x ≡ true → x ≡ nan
unfolding is_nan
no_number nan h = refl
no_number (inf s) h = cc
no_number (fin s m e) h = cc

pub alike_same : (a b : Float) → T (fits binary64 a) → T (fits binary64 b) → alike a b ≡ true → a ≡ b
unfolding alike
alike_same a b p q h = go (is_nan a) (is_nan b) (eqb (to_bits binary64 a) (to_bits binary64 b)) (no_number a) (no_number b) (eqb-true (to_bits binary64 a) (to_bits binary64 b)) h
  where
    go : (s t u : Bool) → (s ≡ true → a ≡ nan) → (t ≡ true → b ≡ nan) → (u ≡ true → to_bits binary64 a ≡ to_bits binary64 b)
        → cond s t (not t && u) ≡ true → a ≡ b
    go true t u f g k h = f refl ∙ sym (g h)
    go false true u f g k h = absurd (subst T (sym h) tt)
    go false false u f g k h = sym (of_bits-to_bits binary64 a p) ∙ ap bits (k h) ∙ of_bits-to_bits binary64 b q

pub alike_itself : (a : Float) → alike a a ≡ true
unfolding alike
alike_itself a = rw (eq-eqb (to_bits binary64 a) (to_bits binary64 a) refl) (go (is_nan a))
  where
    go : (s : Bool) → cond s s (not s && true) ≡ true
    go true = refl
    go false = refl

-- ---- the sign is the highest bit of the pattern

pub sign_of_nan : (x : Float) → is_nan x ≡ true → x ≡ sign_of x
unfolding sign_of
sign_of_nan x h = rw (no_number x h)

-- the pattern without it
sign_bit : (m : ℕ) (e : ℤ) → to_bits binary64 (fin true m e) ≡ 9223372036854775808 + to_bits binary64 (fin false m e)
unfolding to_bits
sign_bit m e = omega arith

lower_bits : (m : ℕ) (e : ℤ) → T (fits binary64 (fin false m e)) → to_bits binary64 (fin false m e) < 9223372036854775808
unfolding neg
lower_bits m e p = let k = to_bits-lt binary64 (fin true m e) (neg-fits binary64 (fin false m e) p) in omega (arith, sign_bit m e)

pub absolute_of_nan : (x : Float) → is_nan x ≡ true → x ≡ absolute x
unfolding absolute
absolute_of_nan x h = rw (no_number x h)

sign_cleared_inf : (s : Bool) → bits (to_bits binary64 (inf s) % 9223372036854775808) ≡ inf false
unfolding of_bits to_bits
sign_cleared_inf true = refl
sign_cleared_inf false = refl

pub absolute_no_nan : (x : Float) → is_nan x ≡ false → T (not (is_nan (absolute x)))
unfolding absolute is_nan
absolute_no_nan nan h = cc
absolute_no_nan (inf s) h = tt
absolute_no_nan (fin s m e) h = tt

pub sign_cleared : (x : Float) → is_nan x ≡ false → T (fits binary64 x) → bits (to_bits binary64 x % 9223372036854775808) ≡ absolute x
unfolding absolute neg is_nan
sign_cleared nan h p = cc
sign_cleared (inf s) h p = sign_cleared_inf s
sign_cleared (fin true m e) h p =
    let q = neg-fits binary64 (fin true m e) p in
    ap bits (ap (λ (n : ℕ). n % 9223372036854775808) (sign_bit m e) ∙ add-mod_left 9223372036854775808 (to_bits binary64 (fin false m e)) ∙ mod-eq_of_lt (lower_bits m e q))
    ∙ of_bits-to_bits binary64 (fin false m e) q
sign_cleared (fin false m e) h p = ap bits (mod-eq_of_lt (lower_bits m e p)) ∙ of_bits-to_bits binary64 (fin false m e) p

pub cleared_no_nan : (x : Float) → is_nan x ≡ false → T (fits binary64 x) → T (not (nan_bits binary64 (to_bits binary64 x % 9223372036854775808)))
cleared_no_nan x h p = rw (nan_bits_is, sign_cleared x h p) (absolute_no_nan x h)

pub sign_plus : (x : Float) → is_nan x ≡ false → to_bits binary64 x < 9223372036854775808 → f1 ≡ sign_of x
unfolding sign_of to_bits is_nan
sign_plus nan p h = cc
sign_plus (inf true) p h = absurd (omega arith)
sign_plus (inf false) p h = refl
sign_plus (fin true m e) p h = absurd (omega arith)
sign_plus (fin false m e) p h = refl

pub sign_minus : (x : Float) → is_nan x ≡ false → T (fits binary64 x) → 9223372036854775808 ≤ to_bits binary64 x → neg f1 ≡ sign_of x
unfolding sign_of to_bits neg is_nan
sign_minus nan p t h = cc
sign_minus (inf true) p t h = refl
sign_minus (inf false) p t h = absurd (omega arith)
sign_minus (fin true m e) p t h = refl
sign_minus (fin false m e) p t h = let k = to_bits-lt binary64 (fin true m e) (neg-fits binary64 (fin false m e) t) in absurd (omega arith)

-- what `abs` and `signum` take
pub ruleset sign_bit_laws = (absolute_of_nan, sign_cleared, cleared_no_nan, sign_of_nan, sign_plus, sign_minus)

-- ---- the negation of a negative float is not negative

pub negated_not_below : (x : Float) → lt x f0 ≡ true → lt (neg x) f0 ≡ false
unfolding lt neg of_bits
negated_not_below nan h = refl
negated_not_below (inf true) h = refl
negated_not_below (inf false) h = sym h
negated_not_below (fin true m e) h = le-ltb (m * up e * 1) (0 * down e) (omega arith)
negated_not_below (fin false m e) h = let l : m * up e * 1 < 0 * down e = ltb-true _ _ h in absurd (omega arith)
