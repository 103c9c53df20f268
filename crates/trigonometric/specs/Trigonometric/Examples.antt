-- Values of sin and cos, proved by computing them: one list, and one theorem over it.
use Rattle.std.specs.Prelude.{◌≡◌, refl, true, false, List, [], ◌∷◌, map, Float}
use Rattle.std.specs.Float.{nan, inf}
use Rattle.std.specs.Float.Ieee.{add, sub, mul, div, neg, lt, le, of_bits, of_int, to_signed}
use Rattle.floats.specs.Operations.{bits, decimal, f0, f1}
use Rattle.floats.specs.Loops.{down_to}
use Rattle.near.specs.Near.{near}
use Rattle.trigonometric.specs.Trigonometric.{trig_sum, sine, cosine, quadrant, sin_in, cos_in, sin, cos}

-- a function at an argument, and its value there
abbrev pub examples : List (Float × Float)
examples =
    -- sin in quadrants 0 to 3, and at negative quotients in quadrants 3, 2, 1 and 0
    (sin f0, f0) ∷
    (sin (neg f0), neg f0) ∷
    (sin (decimal 5 1), bits 0x3fde_aee8_744b_05f0) ∷
    (sin (decimal 2 0), bits 0x3fed_18f6_ead1_b446) ∷
    (sin (decimal 3 0), bits 0x3fc2_1038_6db6_d55b) ∷
    (sin (decimal 5 0), bits 0xbfee_af81_f5e0_9933) ∷
    (sin (neg (decimal 2 0)), bits 0xbfed_18f6_ead1_b446) ∷
    (sin (neg (decimal 3 0)), bits 0xbfc2_1038_6db6_d55b) ∷
    (sin (neg (decimal 5 0)), bits 0x3fee_af81_f5e0_9933) ∷
    (sin (neg (decimal 6 0)), bits 0x3fd1_e1f1_8ab0_a2c0) ∷
    (sin (decimal 1000000 0), bits 0xbfd6_664b_2568_d867) ∷
    (sin (decimal 1073741824 0), nan) ∷
    (sin (neg (decimal 1073741824 0)), nan) ∷
    (sin (inf false), nan) ∷
    (sin nan, nan) ∷
    -- cos likewise
    (cos f0, f1) ∷
    (cos (neg f0), f1) ∷
    (cos (decimal 5 1), bits 0x3fec_1528_065b_7d50) ∷
    (cos (decimal 2 0), bits 0xbfda_a226_5753_7205) ∷
    (cos (decimal 3 0), bits 0xbfef_ae04_be85_e5d2) ∷
    (cos (decimal 5 0), bits 0x3fd2_2785_706b_4ada) ∷
    (cos (neg (decimal 2 0)), bits 0xbfda_a226_5753_7205) ∷
    (cos (neg (decimal 3 0)), bits 0xbfef_ae04_be85_e5d2) ∷
    (cos (neg (decimal 5 0)), bits 0x3fd2_2785_706b_4ada) ∷
    (cos (neg (decimal 6 0)), bits 0x3fee_b9b7_0978_22f6) ∷
    (cos (decimal 1000000 0), bits 0x3fed_f9df_9906_d32c) ∷
    (cos (decimal 1073741824 0), nan) ∷
    (cos (neg (decimal 1073741824 0)), nan) ∷
    (cos (inf true), nan) ∷
    (cos nan, nan) ∷
    []

-- the two columns, and the theorem: each is its value
abbrev pub computed : List Float
computed = map (λ (e : Float × Float). e.0) examples

abbrev pub values : List Float
values = map (λ (e : Float × Float). e.1) examples

pub examples_hold : computed ≡ values
unfolding near down_to trig_sum sine cosine quadrant sin_in cos_in sin cos
    add sub mul div neg lt le of_bits decimal of_int to_signed
examples_hold = refl
