-- Two floats of which one is equal to the opposite of the other by the comparison of floats: it is the opposite to the
-- bit, or both are one and the same zero.
use Rattle.std.proofs.Common.{◌≡◌, refl, sym, ap, ◌∙◌, subst, ◌⊎◌, inl, inr, ℕ, ◌*◌, zero-mul, Bool, true, false, not}
use Rattle.std.proofs.Common.{true≢false, T, ℤ, Float}
use Rattle.std.specs.Float.Ieee.{nan, inf, fin, binary64, up, down, neg, eq, fits}
use Rattle.std.specs.Float.Ieee.Exact.{HasValue}
use Rattle.std.specs.Float.Ieee.Fits.{and_i, down_pos, neg-fits}
use Rattle.floats.specs.Operations.{f0}
use Rattle.floats.proofs.Booleans.{beq_same}
use Rattle.floats.proofs.Values.{value_unique, rescale, own_value, neg_value}
use Rattle.floats.proofs.Comparison.{equal_value, zero_equal}
use Rattle.mirror_images.specs.Images.{signed, MirrorOf, zeros, exact}

side : (t s : Bool) → (t ≡ s) ⊎ (t ≡ not s)
side true true = inl refl
side true false = inr refl
side false true = inr refl
side false false = inl refl

finite_opposites : (s : Bool) (m : ℕ) (d : ℤ) (y : Float) → T (fits binary64 (fin s m d)) → T (fits binary64 y) → eq y (neg (fin s m d)) ≡ true
    → (y ≡ neg (fin s m d)) ⊎ ((y ≡ fin s m d) × T (eq (fin s m d) f0))
finite_opposites s m d y p q e =
    let k = equal_value y (neg (fin s m d)) (not s) (m * up d) (down d) (down_pos d) turned (subst T (sym e) tt) in
    go k.0 k.1 k.2
  where
    turned : HasValue (neg (fin s m d)) (not s) (m * up d) (down d)
    turned = neg_value (fin s m d) s (m * up d) (down d) (own_value s m d)

    to_bit : (t : Bool) → HasValue y t (m * up d) (down d) → t ≡ not s → y ≡ neg (fin s m d)
    to_bit t w h =
        value_unique binary64 y (neg (fin s m d)) (not s) (m * up d) (down d) (down_pos d) q (neg-fits binary64 (fin s m d) p)
        (subst (λ (z : Bool). HasValue y z (m * up d) (down d)) h w) turned

    zero : m * up d ≡ 0 → T (eq (fin s m d) f0)
    zero z =
        zero_equal (fin s m d) s
        (rescale (fin s m d) s (m * up d) (down d) 0 1 (down_pos d) (ap (λ (n : ℕ). n * 1) z ∙ zero-mul 1 ∙ sym (zero-mul (down d))) (own_value s m d))

    go : (t : Bool) → HasValue y t (m * up d) (down d) → (m * up d ≡ 0) ⊎ (t ≡ not s)
        → (y ≡ neg (fin s m d)) ⊎ ((y ≡ fin s m d) × T (eq (fin s m d) f0))
    go t w (inr h) = inl (to_bit t w h)
    go t w (inl z) = elim (side t s) [
      | inl h ↦
          inr (
            value_unique binary64 y (fin s m d) s (m * up d) (down d) (down_pos d) q p
                (subst (λ (b : Bool). HasValue y b (m * up d) (down d)) h w) (own_value s m d),
            zero z,
          )
      | inr h ↦ inl (to_bit t w h)
    ]

pub opposites : (x y : Float) → T (fits binary64 x) → T (fits binary64 y) → eq y (neg x) ≡ true → (y ≡ neg x) ⊎ ((y ≡ x) × T (eq x f0))
unfolding eq neg
opposites nan nan p q e = absurd (true≢false (sym e))
opposites nan (inf t) p q e = absurd (true≢false (sym e))
opposites nan (fin t n c) p q e = absurd (true≢false (sym e))
opposites (inf s) nan p q e = absurd (true≢false (sym e))
opposites (inf s) (inf t) p q e = inl (ap inf (beq_same t (not s) (subst T (sym e) tt)))
opposites (inf s) (fin t n c) p q e = absurd (true≢false (sym e))
opposites (fin s m d) y p q e = finite_opposites s m d y p q e

-- so they are images of each other with the sign −1
pub opposite_images : (x y : Float) → (y ≡ neg x) ⊎ ((y ≡ x) × T (eq x f0)) → MirrorOf true x y
unfolding signed
opposite_images x y (inl e) = exact e
opposite_images x y (inr (e, z)) = zeros (rw e (and_i (eq x f0) (eq x f0) z z))
