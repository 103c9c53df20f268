-- Values of log1pmx, of the correction and of the ratio, proved by computing them: one list, and one theorem over it.
-- At the zeros all 498 turns are taken:
-- these two stand in proofs/Zeros.antt.
use Rattle.std.specs.Prelude.{◌≡◌, refl, List, [], ◌∷◌, map, Float}
use Rattle.std.specs.Float.{nan}
use Rattle.std.specs.Float.Ieee.{add, mul, div, neg, lt, of_bits, of_int}
use Rattle.floats.specs.Operations.{bits, decimal}
use Rattle.signs.specs.Signs.{absolute}
use Rattle.floats.specs.Loops.{count_up}
use Rattle.floats.specs.Polynomials.{polevl_from, polevl}
use Rattle.gamma_ratio.specs.GammaRatio.{log1pmx_turn, log1pmx_sum, log1pmx, lgam_stirling_corr, ln_gamma_ratio}

-- a function at an argument, and its value there
abbrev pub examples : List (Float × Float)
examples =
    (log1pmx (decimal 25 3), bits 0xbf34_251a_df1e_54a5) ∷
    (log1pmx (neg (decimal 25 2)), bits 0xbfa3_4b10_89a6_dc93) ∷
    (lgam_stirling_corr (decimal 20 0), bits 0x3f71_10b3_ed26_1fb2) ∷
    (lgam_stirling_corr (decimal 13 0), bits 0x3f7a_4051_4700_f36c) ∷
    (lgam_stirling_corr nan, nan) ∷
    (ln_gamma_ratio (decimal 195 1), bits 0xbf61_8068_3b2b_0c34) ∷
    (ln_gamma_ratio (decimal 500 0), bits 0xbf15_d867_6e68_6a46) ∷
    []

-- the two columns, and the theorem: each is its value
abbrev pub computed : List Float
computed = map (λ (e : Float × Float). e.0) examples

abbrev pub values : List Float
values = map (λ (e : Float × Float). e.1) examples

pub examples_hold : computed ≡ values
unfolding log1pmx_turn log1pmx_sum log1pmx lgam_stirling_corr ln_gamma_ratio polevl_from polevl absolute count_up
    add mul div neg lt of_bits decimal of_int
examples_hold = refl
