-- The functions of a float's sign and class, each with an answer for every f64 (01, "Elementary functions, the lowest
-- layer", last line; IEEE 754; the Rust methods named). The NaN test is the library's `is_nan`.
use Rattle.std.specs.Prelude.{Bool, true, false, not, ◌&&◌, cond, eqb, Float}
use Rattle.std.specs.Float.{nan, inf, fin, binary64}
use Rattle.std.specs.Float.Ieee.{neg, is_nan, to_bits}
use Rattle.floats.specs.Operations.{f1}

-- 01's word: "alike" means the same bits, or both NaN
unfoldable pub alike : Float → Float → Bool
alike a b = cond (is_nan a) (is_nan b) (not (is_nan b) && eqb (to_bits binary64 a) (to_bits binary64 b))

-- |x|: the sign cleared, that of a zero too (IEEE 754, abs; `abs`)
unfoldable pub absolute : Float → Float
absolute nan = nan
absolute (inf s) = inf false
absolute (fin s m e) = fin false m e

-- whether x is an infinity (IEEE 754, isInfinite; `is_infinite`)
unfoldable pub infinite : Float → Bool
infinite nan = false
infinite (inf s) = true
infinite (fin s m e) = false

-- 1 with the sign of x, a zero's too; a NaN stays (`signum`)
unfoldable pub sign_of : Float → Float
sign_of nan = nan
sign_of (inf s) = cond s (neg f1) f1
sign_of (fin s m e) = cond s (neg f1) f1
