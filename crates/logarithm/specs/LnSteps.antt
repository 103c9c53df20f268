-- The word of a contract inside ln: a number above 0 by its bit pattern.
use Rattle.std.specs.Prelude.{ℕ, ◌+◌, ◌*◌, ◌/◌, ◌%◌, ◌^◌, pos, ◌-ℤ◌, Float}
use Rattle.floats.specs.Operations.{bits}
use Rattle.logarithm.specs.Logarithm.{ln_of_parts}

-- ln of the number with the pattern u, divided by 2 ^ (bias − 1023): m has the pattern's digits, and e is its field
-- less the bias
abbrev pub ln_of_pattern : ℕ → ℕ → Float
ln_of_pattern u bias = ln_of_parts (bits (u % 2 ^ 52 + 1023 * 2 ^ 52)) (pos (u / 2 ^ 52) -ℤ pos bias)
