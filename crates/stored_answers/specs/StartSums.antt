-- The functions of `gamma` and `start_sums` by their numbers in data/start_sums.bin (README.md).
use Rattle.std.specs.Prelude.{ℕ, cond, ◌==◌, Float}
use Rattle.std.specs.Float.{nan}
use Rattle.gamma.specs.Gamma.{gamma2}
use Rattle.start_sums_small.specs.SmallSums.{dvsa, vvsa}
use Rattle.start_sums_large.specs.StartSums.{dvla, vvla}

-- function n at x and y, the order of all but gamma2; NaN for a number that no function has
unfoldable pub start_sums_answer : ℕ → Float → Float → Float
start_sums_answer n x y =
    cond (n == 19) (gamma2 x)
    (cond (n == 20) (dvsa x y)
    (cond (n == 21) (dvla x y)
    (cond (n == 22) (vvsa x y)
    (cond (n == 23) (vvla x y) nan))))
