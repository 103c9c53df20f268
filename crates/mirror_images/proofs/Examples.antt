-- What are mirror images and what are none, by computing.
use Rattle.std.proofs.Common.{◌≡◌, refl, Bool, true, false, ◌||◌, T, eqb, Float}
use Rattle.std.proofs.Math.Dec.{eqb_refl}
use Rattle.std.specs.Float.Ieee.{nan, inf, binary64, neg, eq, is_nan, of_bits, to_bits}
use Rattle.floats.specs.Operations.{bits, f0, f½, f1}
use Rattle.floats.proofs.Booleans.{or_l, or_r}
use Rattle.mirror_images.specs.Images.{signed, both_nan, both_zero, MirrorOf, nans, zeros, exact, odd}

-- images: NaN and NaN; zeros of one sign and of both; 1 and −1, 1 and 1; the infinities
pub images : MirrorOf true nan nan × MirrorOf false nan nan
    × MirrorOf true f0 f0 × MirrorOf false f0 (neg f0) × MirrorOf true (neg f0) f0
    × MirrorOf true f1 (neg f1) × MirrorOf false f1 f1
    × MirrorOf true (inf true) (inf false) × MirrorOf false (inf true) (inf true)
unfolding signed is_nan eq neg of_bits
images = (nans tt, nans tt, zeros tt, zeros tt, zeros tt, exact refl, exact refl, exact refl, exact refl)

-- what every image passes: equal floats have equal bits
abbrev test : Bool → Float → Float → Bool
test opposite a b = both_nan a b || (both_zero a b || eqb (to_bits binary64 b) (to_bits binary64 (signed opposite a)))

passed : {opposite : Bool} {a b : Float} → MirrorOf opposite a b → T (test opposite a b)
passed {opposite} {a} {b} (nans t) = or_l (both_nan a b) _ t
passed {opposite} {a} {b} (zeros t) = or_r (both_nan a b) _ (or_l (both_zero a b) _ t)
passed {opposite} {a} {b} (exact e) = or_r (both_nan a b) _ (or_r (both_zero a b) _ (rw e (eqb_refl (to_bits binary64 (signed opposite a)))))

-- no images: NaN and 1, 0, an infinity, of either order; 1 and 1 with the sign −1, 1 and −1 without it; infinities
-- likewise; 1 and ½; 1 and an infinity, of either order; 0 and 1; 0 and the smallest float above it, of either order;
-- that float and itself with the sign −1
pub no_images : (MirrorOf false nan f1 → ⊥) × (MirrorOf true f1 nan → ⊥)
    × (MirrorOf false nan f0 → ⊥) × (MirrorOf true f0 nan → ⊥)
    × (MirrorOf false nan (inf false) → ⊥) × (MirrorOf true (inf false) nan → ⊥)
    × (MirrorOf true f1 f1 → ⊥) × (MirrorOf false f1 (neg f1) → ⊥)
    × (MirrorOf true (inf false) (inf false) → ⊥) × (MirrorOf false (inf false) (inf true) → ⊥)
    × (MirrorOf false f1 f½ → ⊥) × (MirrorOf false f1 (inf false) → ⊥) × (MirrorOf true (inf false) (neg f1) → ⊥)
    × (MirrorOf false f0 f1 → ⊥) × (MirrorOf true f0 (bits 1) → ⊥) × (MirrorOf true (bits 1) f0 → ⊥)
    × (MirrorOf true (bits 1) (bits 1) → ⊥)
unfolding signed is_nan eq neg of_bits to_bits
no_images = (
  passed,
  passed,
  passed,
  passed,
  passed,
  passed,
  passed,
  passed,
  passed,
  passed,
  passed,
  passed,
  passed,
  passed,
  passed,
  passed,
  passed,
)

-- the signs at k = 0 to 3, 999 and 1000
pub signs : (odd 0 ≡ false) × (odd 1 ≡ true) × (odd 2 ≡ false) × (odd 3 ≡ true) × (odd 999 ≡ true) × (odd 1000 ≡ false)
unfolding odd
signs = (refl, refl, refl, refl, refl, refl)
