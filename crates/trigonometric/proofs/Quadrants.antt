-- The quadrant of an i32, and sin and cos by the quadrant.
use Rattle.std.proofs.Common.{◌≡◌, refl, ◌∙◌, sym, Bool, true, false, cond, ◌&&◌, ℕ, zero, suc, ◌+◌, ◌-◌, ◌%◌, ◌<◌}
use Rattle.std.proofs.Common.{arith, ℤ, pos, negsuc, w32, SFits, to_z, of_z, to_z-of_z}
use Rattle.std.specs.Float.{Float, nan}
use Rattle.std.specs.Float.Ieee.{lt, neg}
use Rattle.std.specs.Int.Bits.{bit_and, and_mask}
use mir.ValLaws.{to_z_pos}
use Rattle.signs.proofs.Signs.{nan_is}
use Rattle.trigonometric.specs.Constants.{angle_end}
use Rattle.trigonometric.specs.Trigonometric.{quadrant, angle_or_nan, sin_in, cos_in, sin, cos}
use Rattle.trigonometric.specs.Trigonometric.Open.{quadrant_pos, quadrant_neg, sin_in_is, cos_in_is, sin_is, cos_is}
use Rattle.trigonometric.specs.Angle.{in_reach, HasAngle}

-- of the two's complement, the remainder modulo 4 is the quadrant
pub modulo : (q : ℤ) → SFits w32 q → of_z w32 q % 4 ≡ quadrant q
modulo (pos n) h = sym (quadrant_pos n)
modulo (negsuc n) h = let e : of_z w32 (negsuc n) % 4 ≡ 3 - n % 4 = omega arith in e ∙ sym (quadrant_neg n)

pub quadrant_below : (q : ℤ) → quadrant q < 4
quadrant_below (pos n) = rw (quadrant_pos n) (omega arith)
quadrant_below (negsuc n) = rw (quadrant_neg n) (omega arith)

-- the two lowest bits of an i32
pub lowest_bits : (q : ℤ) → SFits w32 q → to_z w32 (bit_and (of_z w32 q) 3) ≡ pos (quadrant q)
lowest_bits q h = rw (and_mask (of_z w32 q) 2) (to_z_pos w32 (of_z w32 q % 4) (omega arith) ∙ rw (modulo q h))

-- ---- the cosine is the sine one quarter turn further, operation for operation

pub quarter_further : (q : ℕ) (r : Float) → q < 4 → sin_in ((q + 1) % 4) r ≡ cos_in q r
quarter_further zero r h = rw (sin_in_is 1 r, cos_in_is 0 r)
quarter_further (suc zero) r h = rw (sin_in_is 2 r, cos_in_is 1 r)
quarter_further (suc (suc zero)) r h = rw (sin_in_is 3 r, cos_in_is 2 r)
quarter_further (suc (suc (suc zero))) r h = rw (sin_in_is 0 r, cos_in_is 3 r)
quarter_further (suc (suc (suc (suc n)))) r h = absurd (omega arith)

-- ---- sin and cos of a number that has an angle, and of one that has none

reached_or_nan : (y v : Float) → in_reach y ≡ true → angle_or_nan y v ≡ v
reached_or_nan y v h = go (lt (neg angle_end) y) (lt y angle_end) h
  where
    go : (s t : Bool) → (s && t) ≡ true → cond t (cond s v nan) nan ≡ v
    go true true h = refl
    go true false h = cc
    go false t h = cc

beyond_reach : (y v : Float) → in_reach y ≡ false → angle_or_nan y v ≡ nan
beyond_reach y v h = go (lt (neg angle_end) y) (lt y angle_end) h
  where
    go : (s t : Bool) → (s && t) ≡ false → cond t (cond s v nan) nan ≡ nan
    go true true h = cc
    go true false h = refl
    go false true h = refl
    go false false h = refl

pub sine_of : (y : Float) (q : ℕ) (r : Float) → HasAngle y q r → sin_in q r ≡ sin y
sine_of y q r a = rw (sin_is y, reached_or_nan y _ a.reached, a.turns, a.rest)

pub cosine_of : (y : Float) (q : ℕ) (r : Float) → q < 4 → HasAngle y q r → sin_in ((q + 1) % 4) r ≡ cos y
cosine_of y q r h a = quarter_further q r h ∙ rw (cos_is y, reached_or_nan y _ a.reached, a.turns, a.rest)

pub no_sine : (y : Float) → in_reach y ≡ false → nan ≡ sin y
no_sine y h = rw (sin_is y, beyond_reach y _ h)

pub no_cosine : (y : Float) → in_reach y ≡ false → nan ≡ cos y
no_cosine y h = rw (cos_is y, beyond_reach y _ h)

-- what the functions take
pub ruleset quadrant_laws = (lowest_bits, quadrant_below, to_z-of_z)

pub ruleset angle_laws = (nan_is, sine_of, cosine_of, no_sine, no_cosine)
