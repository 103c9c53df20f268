-- The small functions, those of `signs`, `truncation` and `extremes`, by their numbers in data/floats.bin (README.md).
use Rattle.std.specs.Prelude.{ℕ, Bool, cond, ◌==◌, is_nan, Float}
use Rattle.std.specs.Float.{nan}
use Rattle.std.specs.Float.Ieee.{to_signed}
use Rattle.signs.specs.Signs.{alike, absolute, infinite, sign_of}
use Rattle.truncation.specs.Truncation.{truncated, fraction}
use Rattle.extremes.specs.Extremes.{lesser, greater}
use Rattle.floats.specs.Operations.{float, f0, f1}

-- a bool as a float: 1 or 0
abbrev pub truth : Bool → Float
truth b = cond b f1 f0

-- function n at x and y, of which most take x alone; NaN for a number that no function has
unfoldable pub floats_answer : ℕ → Float → Float → Float
floats_answer n x y =
    cond (n == 1) (absolute x)
    (cond (n == 2) (truth (is_nan x))
    (cond (n == 3) (truth (infinite x))
    (cond (n == 4) (float (to_signed 31 x))
    (cond (n == 5) (truncated x)
    (cond (n == 6) (fraction x)
    (cond (n == 7) (lesser x y)
    (cond (n == 8) (greater x y)
    (cond (n == 9) (sign_of x)
    (cond (n == 10) (truth (alike x y)) nan)))))))))
