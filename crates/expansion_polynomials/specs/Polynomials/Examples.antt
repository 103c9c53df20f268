-- Values of both sums, proved by computing them: one list, and one theorem over it.
use Rattle.std.specs.Prelude.{◌≡◌, refl, List, [], ◌∷◌, map, Float}
use Rattle.std.specs.Float.Ieee.{add, mul, neg, of_bits}
use Rattle.floats.specs.Operations.{bits, decimal, f0, f½}
use Rattle.floats.specs.Polynomials.{polevl_from, polevl}
use Rattle.expansion_coefficients.specs.Table.{coefficients, start, u_row, v_row}
use Rattle.expansion_polynomials.specs.Polynomials.{in_squares, uv_poly, summed, u_sum, v_sum}

-- a sum, and its value
abbrev pub examples : List (Float × Float)
examples =
    (u_sum f½ (decimal 78125 7), bits 0x3fef_f7a1_cd14_f610) ∷
    (v_sum f½ (decimal 78125 7), bits 0x3ff0_03d8_9122_38fa) ∷
    (u_sum (neg (decimal 25 2)) (decimal 15625 6), bits 0x3ff0_03ed_513b_fc8d) ∷
    (v_sum (neg (decimal 25 2)) (decimal 15625 6), bits 0x3fef_f84c_f158_31a3) ∷
    (u_sum f0 f½, bits 0xbfbe_ebfa_288a_ba40) ∷
    (v_sum f0 f½, bits 0x4000_e316_9cdf_009d) ∷
    []

-- the two columns, and the theorem: each is its value
abbrev pub computed : List Float
computed = map (λ (e : Float × Float). e.0) examples

abbrev pub values : List Float
values = map (λ (e : Float × Float). e.1) examples

pub examples_hold : computed ≡ values
unfolding coefficients start u_row v_row in_squares uv_poly summed u_sum v_sum polevl_from polevl add mul neg of_bits decimal
examples_hold = refl
