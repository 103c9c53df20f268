-- Steps, proved by computing them: one list, and one theorem over it.
use Rattle.std.specs.Prelude.{◌≡◌, refl, true, false, List, [], ◌∷◌, map, Float}
use Rattle.std.specs.Float.Ieee.{add, sub, mul, div, neg, of_bits, of_int}
use Rattle.floats.specs.Operations.{decimal, f0, f½, f1}
use Rattle.floats.specs.declared.Function.TheVariants.{D, «V»}
use Rattle.recurrence.specs.Recurrence.{step, step_down}

-- a formula at its operands, and its value there
abbrev pub examples : List (Float × Float)
examples =
    -- D at x = 0 and f = 0, from 1 and 0: rungs 2 to 5 (P7, P11)
    (step D false f0 f0 2 f1 f0, neg f1) ∷
    (step D false f0 f0 3 f0 (neg f1), neg f0) ∷
    (step D false f0 f0 4 (neg f1) (neg f0), decimal 3 0) ∷
    (step D false f0 f0 5 (neg f0) (decimal 3 0), f0) ∷
    -- each formula, at x = 3, f = ½ or −½, k = 4, from 5 and 7
    (step D false (decimal 3 0) f½ 4 (decimal 5 0) (decimal 7 0), decimal 35 1) ∷
    (step D true (decimal 3 0) (neg f½) 4 (decimal 7 0) (decimal 7 0), neg (decimal 4 0)) ∷
    (step «V» false (decimal 3 0) f½ 4 (decimal 3 0) (decimal 7 0), decimal 4 0) ∷
    (step «V» true (decimal 3 0) (neg f½) 4 (decimal 5 0) (decimal 7 0), decimal 335 1) ∷
    (step_down D (decimal 3 0) (neg f½) 4 (decimal 5 0) (decimal 7 0), decimal 535 1) ∷
    (step_down «V» (decimal 3 0) f½ 4 (decimal 5 0) (decimal 7 0), neg (decimal 305 1)) ∷
    []

abbrev pub computed : List Float
computed = map (λ (e : Float × Float). e.0) examples

abbrev pub values : List Float
values = map (λ (e : Float × Float). e.1) examples

pub examples_hold : computed ≡ values
unfolding step step_down decimal of_bits of_int add sub mul div neg
examples_hold = refl
