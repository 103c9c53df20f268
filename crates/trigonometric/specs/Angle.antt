-- The words of the contract of `angle_of`: what is left of a number beyond its quarter turns.
use Rattle.std.specs.Prelude.{◌≡◌, Bool, true, ◌&&◌, ℕ, Float}
use Rattle.std.specs.Float.Ieee.{lt, neg}
use Rattle.trigonometric.specs.Constants.{angle_end}
use Rattle.trigonometric.specs.Trigonometric.{quarters, quadrant, angle_rest}

-- the size of y is below 2 ^ 30
abbrev pub in_reach : Float → Bool
in_reach y = lt (neg angle_end) y && lt y angle_end

-- y is within reach, q its quarter turns modulo 4, and r the rest
pub record HasAngle (y : Float) (q : ℕ) (r : Float) : Type 0 where
  pub reached : in_reach y ≡ true
  pub turns : q ≡ quadrant (quarters y)
  pub rest : r ≡ angle_rest y (quarters y)
