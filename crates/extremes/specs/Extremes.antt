-- Minimum and maximum, each with an answer for every f64 (01, "Elementary functions, the lowest layer", last line; the
-- Rust methods named).
use Rattle.std.specs.Prelude.{cond, Float}
use Rattle.std.specs.Float.Ieee.{lt, is_nan}

-- the smaller operand: the other one where one is NaN, the first where the two are equal (`min`)
unfoldable pub lesser : Float → Float → Float
lesser a b = cond (is_nan a) b (cond (lt b a) b a)

-- the larger operand, by the same rules (`max`)
unfoldable pub greater : Float → Float → Float
greater a b = cond (is_nan a) b (cond (lt a b) b a)
