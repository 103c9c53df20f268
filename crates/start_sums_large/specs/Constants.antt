-- The constants of dvla and vvla, each by its bits; `NAME-is` says which decimal of the source it is.
use Rattle.std.specs.Prelude.{◌≡◌, refl, Float}
use Rattle.std.specs.Float.Ieee.{of_bits}
use Rattle.floats.specs.Operations.{bits, decimal}

-- 0.7978845608028654: the source's SQRT_FRAC_2_PI, √(2 / π)
abbrev pub root_two_over_pi : Float
root_two_over_pi = bits 0x3fe9_8845_33d4_3651

pub root_two_over_pi_is : root_two_over_pi ≡ decimal 7978845608028654 16
unfolding decimal of_bits
root_two_over_pi_is = refl

-- 1e-12: the eps of dvla and vvla
abbrev pub expansion_epsilon : Float
expansion_epsilon = bits 0x3d71_9799_812d_ea11

pub expansion_epsilon_is : expansion_epsilon ≡ decimal 1 12
unfolding decimal of_bits
expansion_epsilon_is = refl
