-- Values of exp, exp2 and exp_m1, proved by computing them: one list, and one theorem over it.
use Rattle.std.specs.Prelude.{◌≡◌, refl, true, false, List, [], ◌∷◌, map, Float}
use Rattle.std.specs.Float.{nan, inf}
use Rattle.std.specs.Float.Ieee.{add, sub, mul, div, neg, lt, le, ne, of_bits, of_int, to_signed}
use Rattle.floats.specs.Operations.{bits, decimal, f0, f1}
use Rattle.floats.specs.Loops.{down_to}
use Rattle.near.specs.Near.{near}
use Rattle.exponential.specs.Exponential.{exp_sum, scaled, exp, exp2, exp_m1}

-- a function at an argument, and its value there
abbrev pub examples : List (Float × Float)
examples =
    -- exp: P1, −0.0, ordinary values, both limits
    (exp f0, f1) ∷
    (exp (neg f0), f1) ∷
    (exp f1, bits 0x4005_bf0a_8b14_576a) ∷
    (exp (neg (decimal 5 1)), bits 0x3fe3_68b2_fc6f_960a) ∷
    (exp (decimal 100 0), bits 0x48f3_494a_9b17_1bf5) ∷
    (exp (decimal 709782712893384 12), bits 0x7fef_ffff_ffff_ff2a) ∷
    (exp (decimal 7097827128933841 13), inf false) ∷
    (exp (neg (decimal 7451 1)), bits 0x0000_0000_0000_0001) ∷
    (exp (neg (decimal 7453 1)), f0) ∷
    (exp (inf false), inf false) ∷
    (exp (inf true), f0) ∷
    (exp nan, nan) ∷
    -- exp2: exact at whole numbers, down to the smallest subnormal; both limits
    (exp2 f0, f1) ∷
    (exp2 (neg f0), f1) ∷
    (exp2 (decimal 10 0), bits 0x4090_0000_0000_0000) ∷
    (exp2 (neg (decimal 1074 0)), bits 0x0000_0000_0000_0001) ∷
    (exp2 (decimal 5 1), bits 0x3ff6_a09e_667f_3bcc) ∷
    (exp2 (decimal 1025 2), bits 0x4093_06fe_0a31_b715) ∷
    (exp2 (decimal 1024 0), inf false) ∷
    (exp2 (neg (decimal 10805 1)), f0) ∷
    (exp2 nan, nan) ∷
    -- exp_m1: by the series up to size 0.5
    (exp_m1 f0, f0) ∷
    (exp_m1 (neg f0), neg f0) ∷
    (exp_m1 (decimal 25 2), bits 0x3fd2_2d78_f0fa_061a) ∷
    (exp_m1 (decimal 5 1), bits 0x3fe4_c253_1c3c_0d38) ∷
    (exp_m1 (neg (decimal 5 1)), bits 0xbfd9_2e9a_0720_d3ec) ∷
    (exp_m1 f1, bits 0x3ffb_7e15_1628_aed4) ∷
    (exp_m1 (neg f1), bits 0xbfe4_3a54_e4e9_8864) ∷
    (exp_m1 (inf true), neg f1) ∷
    (exp_m1 nan, nan) ∷
    -- for powers: exp at 0.5 ln 2 and at −300.5 ln 10
    (exp (bits 0x3fd6_2e42_fefa_39ef), bits 0x3ff6_a09e_667f_3bcc) ∷
    (exp (bits 0xc085_9f6a_20d6_5a60), bits 0x018b_1b75_8337_8ff2) ∷
    []

-- the two columns, and the theorem: each is its value
abbrev pub computed : List Float
computed = map (λ (e : Float × Float). e.0) examples

abbrev pub values : List Float
values = map (λ (e : Float × Float). e.1) examples

pub examples_hold : computed ≡ values
unfolding near down_to exp_sum scaled exp exp2 exp_m1
    add sub mul div neg lt le ne of_bits decimal of_int to_signed
examples_hold = refl
