-- The elementary functions by their numbers in data/elementary.bin (README.md).
use Rattle.std.specs.Prelude.{ℕ, cond, ◌==◌, Float}
use Rattle.std.specs.Float.{nan}
use Rattle.exponential.specs.Exponential.{exp, exp2, exp_m1}
use Rattle.logarithm.specs.Logarithm.{ln, power}
use Rattle.trigonometric.specs.Trigonometric.{sin, cos}
use Rattle.roots.specs.SquareRoot.{square_root}

-- function n at x and y, of which only the power takes y; NaN for a number that no function has
unfoldable pub elementary_answer : ℕ → Float → Float → Float
elementary_answer n x y =
    cond (n == 11) (exp x)
    (cond (n == 12) (exp2 x)
    (cond (n == 13) (exp_m1 x)
    (cond (n == 14) (ln x)
    (cond (n == 15) (power x y)
    (cond (n == 16) (sin x)
    (cond (n == 17) (cos x)
    (cond (n == 18) (square_root x) nan)))))))
