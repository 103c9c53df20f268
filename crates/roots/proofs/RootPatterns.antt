-- The square root of x by the pattern of x: its sign, its exponent's field and its fraction say which case of the definition holds, and the root's pattern
-- is made of the root's exponent and significand.
use Rattle.std.proofs.Common.{◌≡◌, ℕ, zero, suc, ◌+◌, ◌-◌, ◌*◌, ◌/◌, ◌%◌, ◌^◌, ◌<◌, ◌≤◌, Bool, true, false, cond, not}
use Rattle.std.proofs.Common.{T, eqb, pos, sym, refl, ap, ◌∙◌, subst, inl, inr, lt_irrefl, mod-eq_of_lt, eq-or-lt_of_le}
use Rattle.std.proofs.Common.{mul-pos, mul-one, mul-div_cancel, arith, pow_pos, le-ltb, ne_eqb, le-leb}
use Rattle.std.specs.Float.{Float, nan, inf, fin, binary64}
use Rattle.std.specs.Float.Ieee.{down, up, odd, of_fields, of_bits, to_bits, fits, nan_bits, is_nan}
use Rattle.std.specs.Float.Ieee.Exact.{HasValue, odd_sign}
use Rattle.std.proofs.Math.Nat.{mod-le}
use Rattle.std.specs.Float.Ieee.Bits.{of_bits-to_bits, to_bits-lt, nan_bits_above}
use Rattle.std.specs.Float.Ieee.Fits.{down_pos}
use Rattle.std.proofs.lemmas.Bool.{lt-leb}
use Rattle.floats.proofs.Arithmetic.{digits_pos}
use Rattle.signs.proofs.Signs.{nan_is, no_number}
use Rattle.floats.specs.Operations.{bits, f0}
use Rattle.roots.specs.SquareRoot.{square_root, root_of_units}
use Rattle.roots.specs.SquareRoot.Open.{square_root_nan, square_root_infinity, square_root_zero, square_root_finite}
use Rattle.roots.specs.Steps.{fields_magnitude, magnitude, RootPattern}

-- ---- by the value of x, n units with the sign s

pub root_of_value : (x : Float) (s : Bool) (n : ℕ) → HasValue x s n (2 ^ 1074) → 0 < n → square_root x ≡ cond s nan (root_of_units n)
root_of_value nan s n v p = absurd v
root_of_value (inf t) s n v p = absurd v
root_of_value (fin t zero e) s n v p = absurd (lt_irrefl 0 (digits_pos 0 e n (2 ^ 1074) p v.1))
root_of_value (fin t (suc m) e) s n v p =
    square_root_finite t m e
    ∙ ap (λ (b : Bool). cond b nan (root_of_units (suc m * up e * 2 ^ 1074 / down e))) v.0
    ∙ ap (λ (k : ℕ). cond s nan (root_of_units k)) (ap (λ (k : ℕ). k / down e) v.1 ∙ mul-div_cancel n (down_pos e))

-- ---- the fields of a pattern

positive_fields : (b : ℕ) → b < 2 ^ 63 → bits b ≡ of_fields binary64 false (b / 2 ^ 52) (b % 2 ^ 52)
unfolding of_bits
positive_fields b h = rw (lt-leb (2 ^ 63) b h, mod-eq_of_lt h)

negative_fields : (b : ℕ) → 2 ^ 63 ≤ b → bits b ≡ of_fields binary64 true (b % 2 ^ 63 / 2 ^ 52) (b % 2 ^ 52)
unfolding of_bits
negative_fields b h = rw (le-leb (2 ^ 63) b h)

subnormal_fields : (s : Bool) (t : ℕ) → of_fields binary64 s 0 t ≡ odd 53 s t 0 1074
unfolding of_fields
subnormal_fields s t = refl

normal_fields : (s : Bool) (e t : ℕ) → suc e < 2047 → of_fields binary64 s (suc e) t ≡ odd 53 s (2 ^ 52 + t) e 1074
unfolding of_fields
normal_fields s e t h = rw (ne_eqb (suc e) 2047 (λ k. omega arith))

highest_field : (s : Bool) (t : ℕ) → of_fields binary64 s 2047 t ≡ cond (eqb t 0) (inf s) nan
unfolding of_fields
highest_field s t = refl

-- ---- the root by the fields

finite_root : (s : Bool) (e t : ℕ) → e < 2047 → 0 < e + t → square_root (of_fields binary64 s e t) ≡ cond s nan (root_of_units (fields_magnitude e t))
finite_root s zero t h p =
    ap square_root (subnormal_fields s t)
    ∙ root_of_value (odd 53 s t 0 1074) s t (subst (λ (k : ℕ). HasValue (odd 53 s t 0 1074) s k (2 ^ 1074)) (mul-one t) (odd_sign 53 s t 0 1074)) (omega arith)
finite_root s (suc e) t h p =
    ap square_root (normal_fields s e t h)
    ∙ root_of_value (odd 53 s (2 ^ 52 + t) e 1074) s ((2 ^ 52 + t) * 2 ^ e) (odd_sign 53 s (2 ^ 52 + t) e 1074) (mul-pos (omega arith) (pow_pos e))

highest_root : (s : Bool) (t : ℕ) → square_root (of_fields binary64 s 2047 t) ≡ cond s nan (of_fields binary64 false 2047 t)
highest_root s t = rw (highest_field s t, highest_field false t) (go s (eqb t 0))
  where
    go : (s b : Bool) → square_root (cond b (inf s) nan) ≡ cond s nan (cond b (inf false) nan)
    go true true = square_root_infinity true
    go true false = square_root_nan
    go false true = square_root_infinity false
    go false false = square_root_nan

-- ---- the root by the pattern

negative_pattern : (b : ℕ) → 2 ^ 63 < b → b < 2 ^ 64 → square_root (bits b) ≡ nan
negative_pattern b l h = ap square_root (negative_fields b (omega arith)) ∙ go (b % 2 ^ 63 / 2 ^ 52) (b % 2 ^ 52) (omega arith) (omega arith)
  where
    go : (e t : ℕ) → e ≤ 2047 → 0 < e + t → square_root (of_fields binary64 true e t) ≡ nan
    go e t h p = elim (eq-or-lt_of_le h) [
      | inl k ↦ ap (λ (d : ℕ). square_root (of_fields binary64 true d t)) k ∙ highest_root true t
      | inr k ↦ finite_root true e t k p
    ]

highest_pattern : (b : ℕ) → 2047 * 2 ^ 52 ≤ b → b < 2 ^ 63 → square_root (bits b) ≡ bits b
highest_pattern b l h =
    let e : b / 2 ^ 52 ≡ 2047 = omega arith in
    let f : bits b ≡ of_fields binary64 false 2047 (b % 2 ^ 52) = positive_fields b h ∙ ap (λ (d : ℕ). of_fields binary64 false d (b % 2 ^ 52)) e in
    ap square_root f ∙ highest_root false (b % 2 ^ 52) ∙ sym f

positive_pattern : (b : ℕ) → 0 < b → b < 2047 * 2 ^ 52 → square_root (bits b) ≡ root_of_units (magnitude b)
positive_pattern b l h = ap square_root (positive_fields b (omega arith)) ∙ finite_root false (b / 2 ^ 52) (b % 2 ^ 52) (omega arith) (omega arith)

minus_zero_pattern : square_root (bits (2 ^ 63)) ≡ bits (2 ^ 63)
unfolding of_bits
minus_zero_pattern = square_root_zero true (pos 0)

zero_pattern : square_root f0 ≡ f0
unfolding of_bits
zero_pattern = square_root_zero false (pos 0)

-- ---- the root's own pattern

root_bits : (n b : ℕ) → RootPattern n b → bits b ≡ root_of_units n
root_bits n b r =
    let c = r.exponent in
    let q = r.significand in
    let l = r.least in
    let h = r.most in
    let o = r.room in
    let g = r.bits in
    let e : b / 2 ^ 52 ≡ suc c = omega arith in
    let t : b % 2 ^ 52 ≡ q - 2 ^ 52 = omega arith in
    positive_fields b (omega arith)
    ∙ ap (λ (k : ℕ). of_fields binary64 false k (b % 2 ^ 52)) e
    ∙ ap (λ (k : ℕ). of_fields binary64 false (suc c) k) t
    ∙ normal_fields false c (q - 2 ^ 52) (omega arith)
    ∙ ap (λ (k : ℕ). odd 53 false k c 1074) (omega arith)
    ∙ sym r.root

pub no_nan_pattern : (b : ℕ) → b ≤ 2047 * 2 ^ 52 → T (not (nan_bits binary64 b))
no_nan_pattern b h = rw (nan_bits_above binary64 b, le-ltb (2047 * 2 ^ 52) (b % 2 ^ 63) (omega (arith, mod-le b (2 ^ 63)))) tt

pub root_no_nan : (n b : ℕ) → RootPattern n b → T (not (nan_bits binary64 b))
root_no_nan n b r =
    let h = r.most in
    let o = r.room in
    let g = r.bits in
    no_nan_pattern b (omega arith)

-- ---- by the tests of the program

pub root_of_nan : (x : Float) → is_nan x ≡ true → x ≡ square_root x
root_of_nan x h = rw (no_number x h) (sym square_root_nan)

module _ (x : Float) (held : T (fits binary64 x)) where
  same : square_root (bits (to_bits binary64 x)) ≡ square_root x
  same = ap square_root (of_bits-to_bits binary64 x held)

  kept : (b : ℕ) → to_bits binary64 x ≡ b → square_root (bits b) ≡ bits b → x ≡ square_root x
  kept b h e = sym (of_bits-to_bits binary64 x held) ∙ ap bits h ∙ sym e ∙ ap (λ (k : ℕ). square_root (bits k)) (sym h) ∙ same

  pub root_below_zero : 2 ^ 63 < to_bits binary64 x → nan ≡ square_root x
  root_below_zero l = sym (negative_pattern (to_bits binary64 x) l (to_bits-lt binary64 x held)) ∙ same

  pub root_of_zero : to_bits binary64 x ≡ 0 → x ≡ square_root x
  root_of_zero h = kept 0 h zero_pattern

  -- infinity and the zero below 0
  pub root_of_itself : 2047 * 2 ^ 52 ≤ to_bits binary64 x → to_bits binary64 x ≤ 2 ^ 63 → x ≡ square_root x
  root_of_itself l h = elim (eq-or-lt_of_le h) [
    | inl e ↦ kept (2 ^ 63) e minus_zero_pattern
    | inr k ↦ kept (to_bits binary64 x) refl (highest_pattern (to_bits binary64 x) l k)
  ]

  pub root_above_zero : (b : ℕ) → 0 < to_bits binary64 x → to_bits binary64 x < 2047 * 2 ^ 52 → RootPattern (magnitude (to_bits binary64 x)) b → bits b ≡ square_root x
  root_above_zero b l h r = root_bits (magnitude (to_bits binary64 x)) b r ∙ sym (positive_pattern (to_bits binary64 x) l h) ∙ same

-- what `square_root` takes
pub ruleset pattern_laws = (nan_is, root_of_nan, root_below_zero, root_of_zero, root_of_itself, root_above_zero)
