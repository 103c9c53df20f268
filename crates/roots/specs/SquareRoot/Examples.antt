-- Square roots, proved by computing them: one list, and one theorem over it.
use Rattle.std.specs.Prelude.{◌≡◌, true, false, List, [], ◌∷◌, map, refl, Float}
use Rattle.std.specs.Float.{nan, inf}
use Rattle.std.specs.Float.Ieee.{neg, of_bits, size, span, climb}
use Rattle.floats.specs.Operations.{bits, decimal, f0, f1}
use Rattle.roots.specs.SquareRoot.{root_digits, whole_root, rounded_root, dropped_digits, root_of_units, square_root}

-- a square root, and its value
abbrev pub examples : List (Float × Float)
examples =
    -- of 2, an exact one, the smallest subnormal, the largest float, zeros, below 0
    (square_root (decimal 2 0), bits 0x3ff6_a09e_667f_3bcd) ∷
    (square_root (decimal 4 0), bits 0x4000_0000_0000_0000) ∷
    (square_root (bits 0x0000_0000_0000_0001), bits 0x1e60_0000_0000_0000) ∷
    (square_root (bits 0x7fef_ffff_ffff_ffff), bits 0x5fef_ffff_ffff_ffff) ∷
    (square_root (decimal 1 1), bits 0x3fd4_3d13_6248_490f) ∷
    (square_root f0, f0) ∷
    (square_root (neg f0), neg f0) ∷
    (square_root (neg f1), nan) ∷
    (square_root (bits 0x8000_0000_0000_0001), nan) ∷
    (square_root (inf false), inf false) ∷
    (square_root (inf true), nan) ∷
    (square_root nan, nan) ∷
    []

abbrev pub computed : List Float
computed = map (λ (e : Float × Float). e.0) examples

abbrev pub values : List Float
values = map (λ (e : Float × Float). e.1) examples

pub examples_hold : computed ≡ values
unfolding root_digits whole_root rounded_root dropped_digits root_of_units square_root neg of_bits decimal size span climb
examples_hold = refl
