-- The slots of a list: one of them, and a stretch of them written, the form of every exit list. Laws:
-- proofs/Filled.antt.
use Rattle.std.specs.Prelude.{◌≡◌, refl, List, [], ◌∷◌, ℕ, zero, suc, ◌+◌, true, get_or, set, Float}
use Rattle.std.specs.Float.{nan, inf}

-- a slot as it is found
unfoldable pub slot : List Float → ℕ → Float
slot l k = get_or l k nan

-- l with value from, value (from + 1), .. at the slots at, at + 1, .., n of them, and every other slot as it was
unfoldable pub filled : {A : Type 0} → (ℕ → A) → ℕ → ℕ → ℕ → List A → List A
filled value from at zero l = l
filled value from at (suc n) l = set (filled value from at n l) (at + n) (value (from + n))

-- by computing: a slot of two, and one past the end
pub slots_hold : (slot (nan ∷ inf true ∷ []) 1 ≡ inf true) × (slot (inf true ∷ []) 1 ≡ nan)
unfolding slot
slots_hold = (refl, refl)

-- by computing: two slots of four; of three, the last of the list alone; none
pub examples_hold : (filled (λ k. k) 5 1 2 (0 ∷ 0 ∷ 0 ∷ 0 ∷ []) ≡ 0 ∷ 5 ∷ 6 ∷ 0 ∷ [])
    × (filled (λ k. k) 5 3 3 (0 ∷ 0 ∷ 0 ∷ 0 ∷ []) ≡ 0 ∷ 0 ∷ 0 ∷ 5 ∷ [])
    × (filled (λ k. k) 5 0 0 (0 ∷ []) ≡ 0 ∷ [])
unfolding filled
examples_hold = (refl, refl, refl)
