-- Values of dvsa and vvsa, proved by computing them: one list, and one theorem over it. gamma2 and the elementary
-- functions are shut here, so the values that need one of them stand in proofs/, by the laws of their own crates.
use Rattle.std.specs.Prelude.{◌≡◌, refl, List, [], ◌∷◌, map, Float}
use Rattle.std.specs.Float.Ieee.{add, sub, mul, neg, le, eq, of_bits, of_int, to_signed}
use Rattle.floats.specs.Operations.{decimal, f0, f1}
use Rattle.start_sums_small.specs.SmallSums.{is_pole, dvsa_at_zero, dvsa, vvsa_at_zero, vvsa}

-- a function at its arguments, and its value there
abbrev pub examples : List (Float × Float)
examples =
    -- dvsa: P4; the last pole of i32's range; x = −0.0. vvsa: both zeros of va, and poles
    (dvsa f0 f1, f0) ∷
    (dvsa f0 (decimal 4294967297 0), f0) ∷
    (dvsa (neg f0) (decimal 3 0), f0) ∷
    (vvsa f0 f0, f0) ∷
    (vvsa f0 (neg f0), f0) ∷
    (vvsa f0 (neg (decimal 2 0)), f0) ∷
    (vvsa (neg f0) (neg (decimal 4 0)), f0) ∷
    []

-- the two columns, and the theorem: each is its value
abbrev pub computed : List Float
computed = map (λ (e : Float × Float). e.0) examples

abbrev pub values : List Float
values = map (λ (e : Float × Float). e.1) examples

pub examples_hold : computed ≡ values
unfolding is_pole dvsa_at_zero dvsa vvsa_at_zero vvsa add sub mul neg le eq of_bits decimal of_int to_signed
examples_hold = refl
