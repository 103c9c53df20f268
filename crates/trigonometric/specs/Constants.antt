-- The constants of 01's sin and cos, each by its bits; `NAME-is` says which decimal of 01 it is the float nearest to.
use Rattle.std.specs.Prelude.{◌≡◌, refl, Float}
use Rattle.std.specs.Float.Ieee.{of_bits}
use Rattle.floats.specs.Operations.{bits, decimal}

-- 0.6366197723675814: 2 / π
abbrev pub two_over_pi : Float
two_over_pi = bits 0x3fe4_5f30_6dc9_c883

pub two_over_pi_is : two_over_pi ≡ decimal 6366197723675814 16
unfolding decimal of_bits
two_over_pi_is = refl

-- 1.5707963267341256: π / 2 is half_pi_high + half_pi_low
abbrev pub half_pi_high : Float
half_pi_high = bits 0x3ff9_21fb_5440_0000

pub half_pi_high_is : half_pi_high ≡ decimal 15707963267341256 16
unfolding decimal of_bits
half_pi_high_is = refl

-- 6.077100506506192e-11
abbrev pub half_pi_low : Float
half_pi_low = bits 0x3dd0_b461_1a62_6331

pub half_pi_low_is : half_pi_low ≡ decimal 6077100506506192 26
unfolding decimal of_bits
half_pi_low_is = refl

-- 2 ^ 30: from this size on sin and cos are NaN
abbrev pub angle_end : Float
angle_end = bits 0x41d0_0000_0000_0000

pub angle_end_is : angle_end ≡ decimal 1073741824 0
unfolding decimal of_bits
angle_end_is = refl
