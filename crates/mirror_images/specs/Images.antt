-- When a float is the mirror image of another (02, #101): opposite or equal, zeros of either sign taken as equal, and NaN
-- exactly where the other is NaN. What are images and what are none, by computing: proofs/Examples.antt. Laws:
-- proofs/Laws.antt.
use Rattle.std.specs.Prelude.{◌≡◌, Bool, true, false, ◌&&◌, ℕ, ◌%◌, T, eqb, Float}
use Rattle.std.specs.Float.Ieee.{neg, eq, is_nan}
use Rattle.floats.specs.Operations.{f0}

-- a times the sign: −a where `opposite` is true, else a
unfoldable pub signed : Bool → Float → Float
signed false a = a
signed true a = neg a

abbrev pub both_nan : Float → Float → Bool
both_nan a b = is_nan a && is_nan b

-- by the comparison of floats, for which −0.0 is 0.0
abbrev pub both_zero : Float → Float → Bool
both_zero a b = eq a f0 && eq b f0

-- both NaN; or both zero, of any sign; or b is a times the sign exactly, infinities with their signs
pub data MirrorOf (opposite : Bool) (a b : Float) : Type 0 where
  nans : T (both_nan a b) → MirrorOf opposite a b
  zeros : T (both_zero a b) → MirrorOf opposite a b
  exact : b ≡ signed opposite a → MirrorOf opposite a b

-- whether (−1)^k is −1
unfoldable pub odd : ℕ → Bool
odd k = eqb (k % 2) 1
