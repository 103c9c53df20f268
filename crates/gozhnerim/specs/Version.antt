-- The version of the library, 0.3.0: 10000 times the first number, 100 times the second, and the third.
use Rattle.std.specs.Prelude.{ℕ, ◌+◌, ◌*◌}

unfoldable pub version : ℕ
version = 10000 * 0 + 100 * 3 + 0
