-- The constants of gamma2, each by its bits; `NAME-is` says which decimal of the source it is.
use Rattle.std.specs.Prelude.{◌≡◌, refl, ◌^◌, List, [], ◌∷◌, Float}
use Rattle.std.specs.Float.Ieee.{neg, of_bits}
use Rattle.floats.specs.Operations.{bits, decimal}

-- 1e300: the source's SPECFUN_INF
abbrev pub pole_value : Float
pole_value = bits 0x7e37_e43c_8800_759c

pub pole_value_is : pole_value ≡ decimal (10 ^ 300) 0
unfolding decimal of_bits
pole_value_is = refl

-- the source's G: the coefficients c₁ to c₂₆ of 1/Γ(z) (DLMF 5.7.1)
abbrev pub gamma_coefficients : List Float
gamma_coefficients =
    bits 0x3ff0_0000_0000_0000 ∷
    bits 0x3fe2_788c_fc6f_b619 ∷
    bits 0xbfe4_fcf4_026a_fa2d ∷
    bits 0xbfa5_815e_8fa2_7043 ∷
    bits 0x3fc5_5123_20b4_3fbf ∷
    bits 0xbfa5_9af1_03c3_408d ∷
    bits 0xbf83_b4af_2848_3e31 ∷
    bits 0x3f7d_919c_527f_603f ∷
    bits 0xbf53_1711_2ce3_a349 ∷
    bits 0xbf2c_364f_e6f1_4ee4 ∷
    bits 0x3f20_c8a7_8cda_05e6 ∷
    bits 0xbef5_1ce8_af47_8503 ∷
    bits 0xbeb4_fad4_1fc0_3c99 ∷
    bits 0x3eb3_0250_9dbd_5f8a ∷
    bits 0xbe8b_9986_666d_6cd3 ∷
    bits 0x3e3a_44b7_b29b_7e9f ∷
    bits 0x3e35_7bc3_f1cf_4696 ∷
    bits 0xbe14_4b4c_f64b_e4fd ∷
    bits 0x3ddc_ae76_fab7_07d8 ∷
    bits 0x3da1_1d0b_a0cf_45db ∷
    bits 0xbd90_423a_0df7_7d72 ∷
    bits 0x3d61_f1ab_ef48_6ec0 ∷
    bits 0xbd17_318b_b630_3ed5 ∷
    bits 0xbcf8_51c6_b01e_b437 ∷
    bits 0x3cd9_385c_44dd_7885 ∷
    bits 0x3c9c_d2b2_97d8_89bc ∷
    []

-- the same by their decimals
abbrev pub gamma_decimals : List Float
gamma_decimals =
    decimal 1 0 ∷
    decimal 5772156649015329 16 ∷
    neg (decimal 6558780715202538 16) ∷
    neg (decimal 420026350340952 16) ∷
    decimal 1665386113822915 16 ∷
    neg (decimal 421977345555443 16) ∷
    neg (decimal 9621971527877 15) ∷
    decimal 7218943246663 15 ∷
    neg (decimal 11651675918591 16) ∷
    neg (decimal 2152416741149 16) ∷
    decimal 1280502823882 16 ∷
    neg (decimal 201348547807 16) ∷
    neg (decimal 12504934821 16) ∷
    decimal 1133027232 15 ∷
    neg (decimal 2056338417 16) ∷
    decimal 6116095 15 ∷
    decimal 50020075 16 ∷
    neg (decimal 11812746 16) ∷
    decimal 1043427 16 ∷
    decimal 77823 16 ∷
    neg (decimal 36968 16) ∷
    decimal 51 14 ∷
    neg (decimal 206 16) ∷
    neg (decimal 54 16) ∷
    decimal 14 16 ∷
    decimal 1 16 ∷
    []

pub gamma_coefficients_are : gamma_coefficients ≡ gamma_decimals
unfolding decimal of_bits neg
gamma_coefficients_are = refl
