-- The rows of the table stand within it.
use Rattle.std.proofs.Common.{◌≡◌, sym, subst, List, ℕ, ◌≤◌, T, leb, leb→le, length, Float}
use Rattle.expansion_coefficients.specs.Table.{coefficients}

pub row_within : (c : List Float) (from to : ℕ) → c ≡ coefficients → T (leb from to) → T (leb to 172) → (from ≤ to) × (to ≤ length c)
unfolding coefficients
row_within c from to e f t = (leb→le from to f, subst (λ (l : List Float). to ≤ length l) (sym e) (leb→le to 172 t))

-- entries up to `to` are there
pub row_room : (c : List Float) (to : ℕ) → c ≡ coefficients → to ≤ 172 → to ≤ length c
unfolding coefficients
row_room c to e h = subst (λ (l : List Float). to ≤ length l) (sym e) h
