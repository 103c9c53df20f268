-- The constants of the gamma ratio, each by its bits; `NAME-is` says which decimal of 01 or of the source it is.
use Rattle.std.specs.Prelude.{◌≡◌, refl, List, [], ◌∷◌, Float}
use Rattle.std.specs.Float.Ieee.{neg, of_bits}
use Rattle.floats.specs.Operations.{bits, decimal}

-- 1.1102230246251565e-16: 01's stop test of log1pmx
abbrev pub epsilon : Float
epsilon = bits 0x3ca0_0000_0000_0000

pub epsilon_is : epsilon ≡ decimal 11102230246251565 32
unfolding decimal of_bits
epsilon_is = refl

-- the source's GAMMA_A (src/xsf/cephes/gamma.rs), from the highest power down
abbrev pub gamma_a : List Float
gamma_a =
    bits 0x3f4a_9850_2733_6661 ∷
    bits 0xbf43_7fbd_b580_e943 ∷
    bits 0x3f4a_019f_20dc_5ebb ∷
    bits 0xbf66_c16c_16b0_a5a1 ∷
    bits 0x3fb5_5555_5555_554b ∷
    []

-- the same by their decimals
abbrev pub gamma_aDecimals : List Float
gamma_aDecimals =
    decimal 8116141674705085 19 ∷
    neg (decimal 5950619042843014 19) ∷
    decimal 7936503404577169 19 ∷
    neg (decimal 2777777777300997 18) ∷
    decimal 8333333333333319 17 ∷
    []

pub gamma_a_are : gamma_a ≡ gamma_aDecimals
unfolding decimal of_bits neg
gamma_a_are = refl
