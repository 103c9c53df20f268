-- Values of ln and of powers, proved by computing them: one list, and one theorem over it. exp is shut here, so the
-- powers that need it stand in proofs/Laws.antt, by exponential's own laws.
use Rattle.std.specs.Prelude.{◌≡◌, refl, true, false, List, [], ◌∷◌, map, Float}
use Rattle.std.specs.Float.{nan, inf}
use Rattle.std.specs.Float.Ieee.{add, sub, mul, div, neg, le, eq, of_bits, of_int, size, span, climb}
use Rattle.floats.specs.Operations.{bits, decimal, f0, f1}
use Rattle.floats.specs.Loops.{down_to}
use Rattle.logarithm.specs.Logarithm.{ln_sum, ln_of_parts, ln, power}

-- a function at an argument, and its value there
abbrev pub examples : List (Float × Float)
examples =
    -- ln: 1, the digits below and from √2 on, a subnormal, the ends of the range
    (ln f1, f0) ∷
    (ln (decimal 2 0), bits 0x3fe6_2e42_fefa_39ef) ∷
    (ln (decimal 10 0), bits 0x4002_6bb1_bbb5_5516) ∷
    (ln (decimal 1414213562373095 15), bits 0x3fd6_2e42_fefa_39ed) ∷
    (ln (decimal 14142135623730951 16), bits 0x3fd6_2e42_fefa_39f0) ∷
    (ln (bits 0x0000_1268_8b70_e62b), bits 0xc086_4e69_394d_9508) ∷
    (ln (bits 0x0000_0000_0000_0001), bits 0xc087_4385_446d_71c3) ∷
    (ln (bits 0x7fef_ffff_ffff_ffff), bits 0x4086_2e42_fefa_39ef) ∷
    (ln f0, inf true) ∷
    (ln (neg f0), inf true) ∷
    (ln (neg f1), nan) ∷
    (ln (inf false), inf false) ∷
    (ln (inf true), nan) ∷
    (ln nan, nan) ∷
    -- powers: 1 at p = 0 whatever b is
    (power nan f0, f1) ∷
    (power nan (neg f0), f1) ∷
    (power f0 f0, f1) ∷
    (power (neg f1) f0, f1) ∷
    []

-- the two columns, and the theorem: each is its value
abbrev pub computed : List Float
computed = map (λ (e : Float × Float). e.0) examples

abbrev pub values : List Float
values = map (λ (e : Float × Float). e.1) examples

pub examples_hold : computed ≡ values
unfolding down_to ln_sum ln_of_parts ln power
    add sub mul div neg le eq of_bits decimal of_int size span climb
examples_hold = refl
