-- What 01's elementary functions share: near. Crates above can unfold it, to compute values of these functions.
use Rattle.std.specs.Prelude.{cond, ℤ, Float}
use Rattle.std.specs.Float.Ieee.{le, to_signed}
use Rattle.floats.specs.Operations.{◌⊕◌, ◌⊖◌, f0, f½}

-- "near(t) cuts t+0.5 (t ≥ 0) or t−0.5 towards zero": a cast to i32, which never saturates in exp, exp2, sin and cos
-- (exponential's and trigonometric's proofs/NearRange.antt)
unfoldable pub near : Float → ℤ
near t = to_signed 31 (cond (le f0 t) (t ⊕ f½) (t ⊖ f½))
