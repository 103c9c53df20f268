-- The loops of the definitions, each as a recursion on the turns that are left.
use Rattle.std.specs.Prelude.{ℕ, zero, suc, ◌+◌, Bool, true, false, Float}

-- ---- counting up: the source's `for k in first..=last { ..; if test { break; } }`

-- what a turn leaves: whether the loop stops, and the numbers that it carries
abbrev pub Turn : Type 0 → Type 0
Turn S = Bool × S

-- at most n turns, the first with k, the next with k + 1, and so on
unfoldable pub count_up : {S : Type 0} → (ℕ → S → Turn S) → ℕ → ℕ → Turn S → S
count_up turn zero k (b, s) = s
count_up turn (suc n) k (true, s) = s
count_up turn (suc n) k (false, s) = count_up turn n (k + 1) (turn k s)

-- ---- counting down: 01's "for j = 16 down to 1"

-- n turns, for j = last + n − 1 down to last: p becomes f j p
unfoldable pub down_to : (ℕ → Float → Float) → ℕ → ℕ → Float → Float
down_to f last zero p = p
down_to f last (suc n) p = down_to f last n (f (last + n) p)
