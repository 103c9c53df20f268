-- The cut towards zero, with an answer for every f64 (IEEE 754; the Rust methods named). The cast to i32 is the
-- library's `to_signed 31`: cut towards zero, saturating, and 0 for a NaN.
use Rattle.std.specs.Prelude.{◌*◌, ◌/◌, Float}
use Rattle.std.specs.Float.{nan, inf, fin, binary64}
use Rattle.std.specs.Float.Ieee.{up, down, round}
use Rattle.floats.specs.Operations.{◌⊖◌}

-- x without its fraction, and with its sign, a zero's too (IEEE 754, roundToIntegralTowardZero; `trunc`)
unfoldable pub truncated : Float → Float
truncated nan = nan
truncated (inf s) = inf s
truncated (fin s m e) = round binary64 s (m * up e / down e) 1

-- what x has beyond its whole part (`fract`)
unfoldable pub fraction : Float → Float
fraction x = x ⊖ truncated x
