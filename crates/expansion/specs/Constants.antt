-- The constants of the expansion's refusals, each by its bits; `NAME-is` says which decimal of 01 it is.
use Rattle.std.specs.Prelude.{◌≡◌, refl, Float}
use Rattle.std.specs.Float.Ieee.{of_bits}
use Rattle.floats.specs.Operations.{bits, decimal}

-- 2147483648: orders are above its negative
abbrev pub order_limit : Float
order_limit = bits 0x41e0_0000_0000_0000

pub order_limit_is : order_limit ≡ decimal 2147483648 0
unfolding decimal of_bits
order_limit_is = refl

-- 20: orders are at most its negative
abbrev pub f20 : Float
f20 = bits 0x4034_0000_0000_0000

pub f20_is : f20 ≡ decimal 20 0
unfolding decimal of_bits
f20_is = refl
