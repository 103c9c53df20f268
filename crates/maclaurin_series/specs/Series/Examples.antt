-- Values of the series, proved by computing them: one list, and one theorem over it. exp is shut here, so pairs stand
-- in proofs/Laws.antt, by the law of mul_exp.
use Rattle.std.specs.Prelude.{◌≡◌, refl, List, [], ◌∷◌, map, Float}
use Rattle.std.specs.Float.Ieee.{is_nan, add, mul, div, neg, lt, le, eq, of_bits, of_int}
use Rattle.floats.specs.Operations.{bits, decimal, f0, f½, f1}
use Rattle.signs.specs.Signs.{absolute}
use Rattle.extremes.specs.Extremes.{lesser, greater}
use Rattle.floats.specs.Loops.{count_up}
use Rattle.maclaurin_series.specs.Series.{turn, series}

-- a sum of the series, and its value
abbrev pub examples : List (Float × Float)
examples =
    -- a = −20.5, x = 2^−10
    ((series (neg (decimal 205 1)) (bits 0x3f50_0000_0000_0000) f1 f½).4, bits 0x3ff0_01f5_bf93_c332) ∷
    ((series (neg (decimal 205 1)) (bits 0x3f50_0000_0000_0000) f1 f½).5, bits 0x3fde_b7eb_c622_2dcf) ∷
    -- a = −1.5, x = −2^−9, with the even terms 0
    ((series (neg (decimal 15 1)) (bits 0xbf60_0000_0000_0000) f0 f1).4, bits 0xbf5f_fffe_0000_1000) ∷
    ((series (neg (decimal 15 1)) (bits 0xbf60_0000_0000_0000) f0 f1).5, bits 0x3fef_fffa_0000_5000) ∷
    []

-- the two columns, and the theorem: each is its value
abbrev pub computed : List Float
computed = map (λ (e : Float × Float). e.0) examples

abbrev pub values : List Float
values = map (λ (e : Float × Float). e.1) examples

pub examples_hold : computed ≡ values
unfolding turn series absolute lesser greater count_up is_nan add mul div neg lt le eq of_bits decimal of_int
examples_hold = refl
