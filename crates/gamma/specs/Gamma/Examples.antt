-- Values of gamma2, proved by computing them: one list, and one theorem over it. The sine is shut here, so a value that
-- needs it stands in proofs/Laws.antt, by trigonometric's own laws.
use Rattle.std.specs.Prelude.{◌≡◌, refl, ◌^◌, true, false, List, [], ◌∷◌, map, Float}
use Rattle.std.specs.Float.{nan, inf}
use Rattle.std.specs.Float.Ieee.{add, sub, mul, div, neg, lt, eq, of_bits, of_int, to_signed}
use Rattle.floats.specs.Operations.{bits, decimal, f0, f1}
use Rattle.signs.specs.Signs.{absolute, infinite}
use Rattle.truncation.specs.Truncation.{truncated, fraction}
use Rattle.floats.specs.Loops.{count_up}
use Rattle.gamma.specs.Constants.{pole_value}
use Rattle.gamma.specs.Gamma.{product_turn, factorial, falling, polynomial, reciprocal_series, gamma_near}
use Rattle.gamma.specs.Gamma.{gamma_above, gamma2}

-- gamma2 at its argument, and its value there
abbrev pub examples : List (Float × Float)
examples =
    -- P2; whole numbers, up to the first infinite product
    (gamma2 (decimal 5 0), decimal 24 0) ∷
    (gamma2 f1, f1) ∷
    (gamma2 (decimal 2 0), f1) ∷
    (gamma2 (decimal (10 ^ 22) 0), inf false) ∷
    (gamma2 (inf false), inf false) ∷
    -- P3; the other poles, and minus infinity
    (gamma2 (neg (decimal 3 0)), pole_value) ∷
    (gamma2 f0, pole_value) ∷
    (gamma2 (neg f0), pole_value) ∷
    (gamma2 (neg f1), pole_value) ∷
    (gamma2 (neg (decimal (10 ^ 22) 0)), pole_value) ∷
    (gamma2 (inf true), pole_value) ∷
    -- up to size 1 by the series at x itself, beyond by the series at the fraction; an infinite quotient; NaN
    (gamma2 (decimal 5 1), bits 0x3ffc_5bf8_91b4_ef6b) ∷
    (gamma2 (neg (decimal 5 1)), bits 0xc00c_5bf8_91b4_ef6b) ∷
    (gamma2 (neg (decimal 75 2)), bits 0xc013_562a_82ff_49f2) ∷
    (gamma2 (decimal 15 1), bits 0x3fec_5bf8_91b4_ef6b) ∷
    (gamma2 (decimal 205 1), bits 0x439e_02bb_bd54_9cb9) ∷
    (gamma2 (bits 0x0000_0000_0000_0001), inf false) ∷
    (gamma2 nan, nan) ∷
    -- at odd quarters, for the series of dvsa
    (gamma2 (neg (decimal 25 2)), bits 0xc013_9b4e_8b50_f62c) ∷
    (gamma2 (decimal 25 2), bits 0x400d_013f_c47e_eeea) ∷
    (gamma2 (decimal 75 2), bits 0x3ff3_9b4e_8b50_f62c) ∷
    (gamma2 (decimal 125 2), bits 0x3fed_013f_c47e_eeea) ∷
    (gamma2 (decimal 175 2), bits 0x3fed_68f5_d0f9_7142) ∷
    (gamma2 (decimal 225 2), bits 0x3ff2_20c7_dacf_5552) ∷
    []

-- the two columns, and the theorem: each is its value
abbrev pub computed : List Float
computed = map (λ (e : Float × Float). e.0) examples

abbrev pub values : List Float
values = map (λ (e : Float × Float). e.1) examples

pub examples_hold : computed ≡ values
unfolding product_turn factorial falling polynomial reciprocal_series gamma_near gamma_above gamma2
    absolute infinite truncated fraction count_up
    add sub mul div neg lt eq of_bits decimal of_int to_signed
examples_hold = refl
