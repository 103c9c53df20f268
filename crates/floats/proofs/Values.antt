-- A finite float is a sign and a fraction: `HasValue x s a c` says that x has the sign s and the size a / c.
use Rattle.std.proofs.Common.{◌≡◌, refl, sym, ap, ◌∙◌, ℕ, zero, suc, ◌+◌, ◌-◌, ◌*◌, ◌/◌, ◌^◌, ◌≤◌, ◌<◌, min, zero-mul}
use Rattle.std.proofs.Common.{lt_irrefl, mul_comm, mul_assoc, mul_right_comm, Bool, true, false, not, cond, ℤ, pos}
use Rattle.std.proofs.Common.{neg_ℤ, T, Float}
use Rattle.std.specs.Float.{nan, inf, fin, Format}
use Rattle.std.specs.Float.Ieee.{prec, low, up, down, size, neg, fits, is_nan, of_bits, to_bits, top, hid, to_signed}
use Rattle.std.specs.Float.Ieee.{to_unsigned, of_int}
use Rattle.std.specs.Float.Ieee.Exact.{HasValue}
use Rattle.std.proofs.Math.Nat.{eq_of_mul-eq-mul_right}
use Rattle.std.specs.Float.Ieee.Back.{round_whole}
use Rattle.std.specs.Float.Ieee.Bits.{of_bits-to_bits}
use Rattle.std.specs.Float.Ieee.Fits.{down_pos}
use Rattle.std.specs.Float.Ieee.Nearest.{div_same}
use Rattle.std.specs.Float.Ieee.Scale.{finite}
use Rattle.floats.specs.Facts.{signed_int}
use Rattle.floats.specs.Operations.{bits, f0}

-- a value's pattern turns on its sign and its size in units alone
abbrev bits_at : Format → Bool → ℕ → ℕ
bits_at f s n = cond s (top f) 0 + (size n - prec f) * hid f + n / 2 ^ (size n - prec f)

bits_of : (f : Format) (x : Float) (s : Bool) (a c : ℕ) → 0 < c → HasValue x s a c → to_bits f x ≡ bits_at f s (a * 2 ^ low f / c)
unfolding to_bits
bits_of f nan s a c C v = absurd v
bits_of f (inf t) s a c C v = absurd v
bits_of f (fin t m e) s a c C v =
    ap (λ (b : Bool). bits_at f b (m * up e * 2 ^ low f / down e)) v.0
    ∙ ap (λ (n : ℕ). bits_at f s n)
    (div_same (m * up e * 2 ^ low f) (down e) (a * 2 ^ low f) c (down_pos e) C
    (mul_right_comm (m * up e) (2 ^ low f) c ∙ ap (λ (z : ℕ). z * 2 ^ low f) v.1 ∙ mul_right_comm a (down e) (2 ^ low f)))

-- two values that the format holds, of one sign and one size, are one value
pub value_unique : (f : Format) (x y : Float) (s : Bool) (a c : ℕ) → 0 < c → T (fits f x) → T (fits f y) → HasValue x s a c → HasValue y s a c → x ≡ y
value_unique f x y s a c C p q v w =
    sym (of_bits-to_bits f x p) ∙ ap (λ (n : ℕ). of_bits f n) (bits_of f x s a c C v ∙ sym (bits_of f y s a c C w)) ∙ of_bits-to_bits f y q

-- ---- one value, two fractions

pub value_finite : (x : Float) (s : Bool) (a c : ℕ) → HasValue x s a c → T (finite x)
value_finite nan s a c v = absurd v
value_finite (inf t) s a c v = absurd v
value_finite (fin t m e) s a c v = tt

pub value_number : (x : Float) (s : Bool) (a c : ℕ) → HasValue x s a c → is_nan x ≡ false
unfolding is_nan
value_number nan s a c v = absurd v
value_number (inf t) s a c v = absurd v
value_number (fin t m e) s a c v = refl

pub same_sign : (x : Float) (s t : Bool) (a c b d : ℕ) → HasValue x s a c → HasValue x t b d → s ≡ t
same_sign nan s t a c b d v w = absurd v
same_sign (inf u) s t a c b d v w = absurd v
same_sign (fin u m e) s t a c b d v w = sym v.0 ∙ w.0

pub cross : (x : Float) (s t : Bool) (a c b d : ℕ) → HasValue x s a c → HasValue x t b d → a * d ≡ b * c
cross nan s t a c b d v w = absurd v
cross (inf u) s t a c b d v w = absurd v
cross (fin u m e) s t a c b d v w =
    eq_of_mul-eq-mul_right (down e) (down_pos e) (a * d) (b * c)
    (mul_right_comm a d (down e) ∙ ap (λ (z : ℕ). z * d) (sym v.1) ∙ mul_right_comm (m * up e) c d ∙ ap (λ (z : ℕ). z * c) w.1 ∙ mul_right_comm b (down e) c)

pub rescale : (x : Float) (s : Bool) (a c b d : ℕ) → 0 < c → a * d ≡ b * c → HasValue x s a c → HasValue x s b d
rescale nan s a c b d C h v = v
rescale (inf t) s a c b d C h v = v
rescale (fin t m e) s a c b d C h v = (
  v.0,
  eq_of_mul-eq-mul_right c C (m * up e * d) (b * down e)
      (mul_right_comm (m * up e) d c ∙ ap (λ (z : ℕ). z * d) v.1 ∙ mul_right_comm a (down e) d ∙ ap (λ (z : ℕ). z * down e) h ∙ mul_right_comm b c (down e)),
)

pub neg_value : (x : Float) (s : Bool) (a c : ℕ) → HasValue x s a c → HasValue (neg x) (not s) a c
unfolding neg
neg_value nan s a c v = absurd v
neg_value (inf t) s a c v = absurd v
neg_value (fin t m e) s a c v = (ap not v.0, v.1)

-- a float by its own digits, and zero over any denominator
pub own_value : (s : Bool) (m : ℕ) (e : ℤ) → HasValue (fin s m e) s (m * up e) (down e)
own_value s m e = (refl, refl)

pub zero_value : (c : ℕ) → HasValue (fin false 0 (pos 0)) false 0 c
zero_value c = (refl, zero-mul c)

pub zero_over : (c : ℕ) → HasValue f0 false 0 c
unfolding of_bits
zero_over c = zero_value c

-- the same over a multiple of the denominator
pub fin_value : (s : Bool) (m : ℕ) (e : ℤ) (k C : ℕ) → C ≡ down e * k → HasValue (fin s m e) s (m * up e * k) C
fin_value s m e k C h = (refl, ap (λ (z : ℕ). m * up e * z) (h ∙ mul_comm (down e) k) ∙ sym (mul_assoc (m * up e) k (down e)))

-- ---- a float to an integer, by any fraction that it equals

pub to_signed_at : (h : ℕ) (x : Float) (s : Bool) (a c : ℕ) → 0 < c → HasValue x s a c
    → to_signed h x ≡ cond s (neg_ℤ (pos (min (a / c) (2 ^ h)))) (pos (min (a / c) (2 ^ h - 1)))
unfolding to_signed
to_signed_at h nan s a c C v = absurd v
to_signed_at h (inf t) s a c C v = absurd v
to_signed_at h (fin t m e) s a c C v =
    ap (λ (z : ℕ). cond t (neg_ℤ (pos (min z (2 ^ h)))) (pos (min z (2 ^ h - 1)))) (div_same (m * up e) (down e) a c (down_pos e) C v.1)
    ∙ ap (λ (z : Bool). cond z (neg_ℤ (pos (min (a / c) (2 ^ h)))) (pos (min (a / c) (2 ^ h - 1)))) v.0

pub to_unsigned_at : (w : ℕ) (x : Float) (s : Bool) (a c : ℕ) → 0 < c → HasValue x s a c → to_unsigned w x ≡ cond s 0 (min (a / c) (2 ^ w - 1))
unfolding to_unsigned
to_unsigned_at w nan s a c C v = absurd v
to_unsigned_at w (inf t) s a c C v = absurd v
to_unsigned_at w (fin t m e) s a c C v =
    ap (λ (z : ℕ). cond t 0 (min z (2 ^ w - 1))) (div_same (m * up e) (down e) a c (down_pos e) C v.1)
    ∙ ap (λ (z : Bool). cond z 0 (min (a / c) (2 ^ w - 1))) v.0

-- ---- an integer as a float

pub of_int_value : (f : Format) (s : Bool) (n : ℕ) → 0 < n → n ≤ 2 ^ prec f → HasValue (of_int f (signed_int s n)) s n 1
unfolding of_int
of_int_value f s zero p h = absurd (lt_irrefl 0 p)
of_int_value f false (suc n) p h = round_whole f false (suc n) h
of_int_value f true (suc n) p h = round_whole f true (suc n) h

pub of_int_pos : (f : Format) (n : ℕ) → n ≤ 2 ^ prec f → HasValue (of_int f (pos n)) false n 1
unfolding of_int
of_int_pos f n h = round_whole f false n h

-- ---- `f64::NAN`

pub nan_is : bits 0x7ff8_0000_0000_0000 ≡ nan
unfolding of_bits
nan_is = refl
