-- The constants of the Maclaurin series, each by its bits; `NAME-is` says which decimal of the source it is.
use Rattle.std.specs.Prelude.{◌≡◌, refl, ◌^◌, Float}
use Rattle.std.specs.Float.Ieee.{of_bits}
use Rattle.floats.specs.Operations.{bits, decimal}

-- 1e-150: below it the short form is taken
abbrev pub short_form_limit : Float
short_form_limit = bits 0x20ca_2fe7_6a3f_9475

pub short_form_limit_is : short_form_limit ≡ decimal 1 150
unfolding decimal of_bits
short_form_limit_is = refl

-- 1e-17, of the stop test
abbrev pub series_epsilon : Float
series_epsilon = bits 0x3c67_0ef5_4646_d497

pub series_epsilon_is : series_epsilon ≡ decimal 1 17
unfolding decimal of_bits
series_epsilon_is = refl

-- 2^600: the source's pow2(600)
abbrev pub scale : Float
scale = bits 0x6570_0000_0000_0000

pub scale_is : scale ≡ decimal (2 ^ 600) 0
unfolding decimal of_bits
scale_is = refl

-- 600
abbrev pub f600 : Float
f600 = bits 0x4082_c000_0000_0000

pub f600_is : f600 ≡ decimal 600 0
unfolding decimal of_bits
f600_is = refl
