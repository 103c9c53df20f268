-- The constants of dvsa and vvsa, each by its bits; `NAME-is` says which decimal of the source it is.
-- The source's SQRT_2 stands in logarithm's specs/Constants.antt.
use Rattle.std.specs.Prelude.{◌≡◌, refl, Float}
use Rattle.std.specs.Float.Ieee.{of_bits}
use Rattle.floats.specs.Operations.{bits, decimal}

-- 6.283185307179586: the source's TAU, 2 π
abbrev pub tau : Float
tau = bits 0x4019_21fb_5444_2d18

pub tau_is : tau ≡ decimal 6283185307179586 15
unfolding decimal of_bits
tau_is = refl

-- 1.7724538509055159: the source's SQRT_PI, the float below the one nearest to √π
abbrev pub root_pi : Float
root_pi = bits 0x3ffc_5bf8_91b4_ef6a

pub root_pi_is : root_pi ≡ decimal 17724538509055159 16
unfolding decimal of_bits
root_pi_is = refl

-- 1e-15: the eps of dvsa and vvsa
abbrev pub series_epsilon : Float
series_epsilon = bits 0x3cd2_03af_9ee7_5616

pub series_epsilon_is : series_epsilon ≡ decimal 1 15
unfolding decimal of_bits
series_epsilon_is = refl
