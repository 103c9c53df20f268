-- Derivatives, proved by computing them: one list, and one theorem over it.
use Rattle.std.specs.Prelude.{◌≡◌, refl, true, false, List, [], ◌∷◌, map, Float}
use Rattle.std.specs.Float.Ieee.{add, sub, mul, neg, of_bits, of_int}
use Rattle.floats.specs.Operations.{decimal, f0, f½, f1}
use Rattle.signs.specs.Signs.{absolute}
use Rattle.floats.specs.declared.Function.TheVariants.{D, «V»}
use Rattle.derivatives.specs.Derivatives.{derivative}

-- a formula at its operands, and its value there
abbrev pub examples : List (Float × Float)
examples =
    -- D at x = 0 and f = 0: derivatives 0, 1, 2 and 4 (P5, P6, P7, P11)
    (derivative D false f0 f0 0 f1 f0, f0) ∷
    (derivative D false f0 f0 1 f0 (neg f1), f1) ∷
    (derivative D false f0 f0 2 (neg f1) (neg f0), f0) ∷
    (derivative D false f0 f0 4 (decimal 3 0) f0, f0) ∷
    -- each formula, at x = 3, f = ½ or −½, k = 4, from 5 and 7
    (derivative D false (decimal 3 0) f½ 4 (decimal 5 0) (decimal 7 0), f½) ∷
    (derivative D true (decimal 3 0) (neg f½) 4 (decimal 5 0) (decimal 7 0), neg (decimal 39 0)) ∷
    (derivative «V» false (decimal 3 0) f½ 4 (decimal 5 0) (decimal 7 0), neg (decimal 31 0)) ∷
    (derivative «V» true (decimal 3 0) (neg f½) 4 (decimal 5 0) (decimal 7 0), neg f½) ∷
    []

abbrev pub computed : List Float
computed = map (λ (e : Float × Float). e.0) examples

abbrev pub values : List Float
values = map (λ (e : Float × Float). e.1) examples

pub examples_hold : computed ≡ values
unfolding derivative absolute decimal of_bits of_int add sub mul neg
examples_hold = refl
