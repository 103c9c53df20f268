-- The start sum at each limit and at the float beside it, and the seeds, proved by computing: one list, and one theorem
-- over it. It does not turn on what the start sums are, nor on the side, the fraction and the order.
use Rattle.std.specs.Prelude.{◌≡◌, Bool, true, false, List, [], ◌∷◌, map, Float}
use Rattle.std.proofs.Math.Path.{refl}
use Rattle.std.specs.Float.Ieee.{le, of_bits}
use Rattle.floats.specs.Operations.{bits, decimal}
use Rattle.signs.specs.Signs.{absolute}
use Rattle.floats.specs.declared.Function.{Function}
use Rattle.floats.specs.declared.Function.TheVariants.{D, «V»}
use Rattle.rungs.specs.Rungs.{start_sum, small_limit, start_value, seed}

module _ (below : Bool) (f va : Float) where
  abbrev pub at : Function → Float → Float
  at fn x = start_value (record { function = fn; below = below; x = x; f = f }) va

  -- a start value, and the start sum that it is: false is that for small arguments, true that for large ones
  abbrev pub examples : List (Float × Float)
  examples =
      -- D at 5.8 and −5.8, and at the next beyond each
      (at D (bits 0x4017_3333_3333_3333), start_sum D false (bits 0x4017_3333_3333_3333) va) ∷
      (at D (bits 0xc017_3333_3333_3333), start_sum D false (bits 0xc017_3333_3333_3333) va) ∷
      (at D (bits 0x4017_3333_3333_3334), start_sum D true (bits 0x4017_3333_3333_3334) va) ∷
      (at D (bits 0xc017_3333_3333_3334), start_sum D true (bits 0xc017_3333_3333_3334) va) ∷
      -- V at 7.5 and −7.5, and at the next beyond each
      (at «V» (bits 0x401e_0000_0000_0000), start_sum «V» false (bits 0x401e_0000_0000_0000) va) ∷
      (at «V» (bits 0xc01e_0000_0000_0000), start_sum «V» false (bits 0xc01e_0000_0000_0000) va) ∷
      (at «V» (bits 0x401e_0000_0000_0001), start_sum «V» true (bits 0x401e_0000_0000_0001) va) ∷
      (at «V» (bits 0xc01e_0000_0000_0001), start_sum «V» true (bits 0xc01e_0000_0000_0001) va) ∷
      -- the seeds are 1e-30 and 1e-40
      (seed D, decimal 1 30) ∷
      (seed «V», decimal 1 40) ∷
      []

  abbrev pub computed : List Float
  computed = map (λ (e : Float × Float). e.0) examples

  abbrev pub values : List Float
  values = map (λ (e : Float × Float). e.1) examples

  pub examples_hold : computed ≡ values
  unfolding start_value small_limit seed absolute decimal of_bits le
  examples_hold = refl
