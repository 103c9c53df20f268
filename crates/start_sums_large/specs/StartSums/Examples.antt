-- Values of the sums in dvla and vvla, proved by computing them: one list, and one theorem over it. gamma2 and the
-- elementary functions are shut here.
use Rattle.std.specs.Prelude.{◌≡◌, refl, List, [], ◌∷◌, map, Float}
use Rattle.std.specs.Float.Ieee.{add, sub, mul, div, neg, lt, of_bits, of_int}
use Rattle.floats.specs.Operations.{bits, decimal}
use Rattle.signs.specs.Signs.{absolute}
use Rattle.floats.specs.Loops.{count_up}
use Rattle.start_sums_large.specs.StartSums.{expansion_turn, dvla_sum, vvla_sum}

-- a sum at its arguments, and its value there
abbrev pub examples : List (Float × Float)
examples =
    -- one that stops, one of all 18 terms, and one whose terms end at 0
    ((dvla_sum (neg (decimal 12 0)) (decimal 425 2)).1, bits 0x3fee_7907_a964_c121) ∷
    ((vvla_sum (decimal 3 0) (decimal 5 1)).1, bits 0x40ca_8145_4e17_b53e) ∷
    ((dvla_sum (decimal 10 0) (decimal 2 0)).1, bits 0x3fef_ae14_7ae1_47ae) ∷
    []

-- the two columns, and the theorem: each is its value
abbrev pub computed : List Float
computed = map (λ (e : Float × Float). e.0) examples

abbrev pub values : List Float
values = map (λ (e : Float × Float). e.1) examples

pub examples_hold : computed ≡ values
unfolding expansion_turn dvla_sum vvla_sum absolute count_up add sub mul div neg lt of_bits decimal of_int
examples_hold = refl
