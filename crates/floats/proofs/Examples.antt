-- An entry of a list of examples that was computed as a whole, by its place in it.
use Rattle.std.proofs.Common.{◌≡◌, ap, ℕ, List, get_or}

pub entry_of : {A : Type 0} {xs ys : List A} → xs ≡ ys → (n : ℕ) (d : A) → get_or xs n d ≡ get_or ys n d
entry_of {A = A} e n d = ap (λ (l : List A). get_or l n d) e
