-- Refusal numbers of the expansion, proved by computing them: one list, and one theorem over it.
use Rattle.std.specs.Prelude.{◌≡◌, refl, true, false, List, [], ◌∷◌, map, ℕ}
use Rattle.std.specs.Float.{nan, inf}
use Rattle.std.specs.Float.Ieee.{is_nan, neg, lt, le, eq, of_bits}
use Rattle.floats.specs.Operations.{bits, decimal, f0, f1}
use Rattle.signs.specs.Signs.{infinite}
use Rattle.expansion.specs.Expansion.{refusal}

-- the refusal of an order and an argument, and its number
abbrev pub examples : List (ℕ × ℕ)
examples =
    -- −20 and its neighbours, −2147483648 and its neighbour above
    (refusal (neg (decimal 20 0)) f1, 0) ∷
    (refusal (bits 0xc033_ffff_ffff_ffff) f1, 4) ∷
    (refusal (bits 0xc034_0000_0000_0001) f1, 0) ∷
    (refusal (neg (decimal 2147483648 0)) f1, 4) ∷
    (refusal (bits 0xc1df_ffff_ffff_ffff) f1, 0) ∷
    (refusal (inf true) f1, 4) ∷
    (refusal f0 f1, 4) ∷
    -- 1 before 4 before 5
    (refusal nan (inf false), 1) ∷
    (refusal f0 nan, 1) ∷
    (refusal f0 (inf false), 4) ∷
    (refusal (neg (decimal 20 0)) (inf true), 5) ∷
    []

-- the two columns, and the theorem: each is its number
abbrev pub computed : List ℕ
computed = map (λ (e : ℕ × ℕ). e.0) examples

abbrev pub numbers : List ℕ
numbers = map (λ (e : ℕ × ℕ). e.1) examples

pub examples_hold : computed ≡ numbers
unfolding refusal is_nan infinite neg lt le eq of_bits decimal
examples_hold = refl
