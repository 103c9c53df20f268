-- The constants of 01's ln, each by its bits; `NAME-is` says which decimal of 01 it is the float nearest to. The two
-- parts of ln 2 stand in exponential's specs/Constants.antt.
use Rattle.std.specs.Prelude.{◌≡◌, refl, Float}
use Rattle.std.specs.Float.Ieee.{of_bits}
use Rattle.floats.specs.Operations.{bits, decimal}

-- 1.4142135623730951: √2
abbrev pub root2 : Float
root2 = bits 0x3ff6_a09e_667f_3bcd

pub root2_is : root2 ≡ decimal 14142135623730951 16
unfolding decimal of_bits
root2_is = refl
