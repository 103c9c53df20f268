-- The constants of the tests, each by its bits, with the theorem that it is its decimal.
use Rattle.std.specs.Prelude.{◌≡◌, refl, Float}
use Rattle.std.specs.Float.Ieee.{of_bits}
use Rattle.floats.specs.Operations.{bits, decimal}

-- 7.5
abbrev pub f7·5 : Float
f7·5 = bits 0x401e_0000_0000_0000

pub f7·5_is : f7·5 ≡ decimal 75 1
unfolding decimal of_bits
f7·5_is = refl

-- 10
abbrev pub f10 : Float
f10 = bits 0x4024_0000_0000_0000

pub f10_is : f10 ≡ decimal 10 0
unfolding decimal of_bits
f10_is = refl
