-- The tested reader (02, #102): it lends a column only where both tables hold every rung of a state, whoever wrote to
-- them. Of a state it looks at function, side, x, f and n; its two values play no part.
use Rattle.std.specs.Prelude.{List, ℕ, zero, suc, ◌+◌, Bool, true, not, ◌&&◌, ◌||◌, cond, eqb, length, take, Float}
use Rattle.std.specs.Prelude.{Result, Ok, Err}
use Rattle.std.proofs.Math.Option.{Option, some, none}
use Rattle.std.specs.Borrow.{Bor}
use Rattle.signs.specs.Signs.{alike}
use Rattle.slots.specs.Slots.{slot}
use Rattle.answer.specs.declared.Refusal.{Refusal}
use Rattle.order.specs.declared.Sequence.{Sequence}
use Rattle.recurrence.specs.Recurrence.{next_rung}
use Rattle.rungs.specs.Rungs.{start_rungs}
use Rattle.value_column.specs.OverSlots.{derivative_over}
use Rattle.ladder_machine.specs.Machine.{too_short}
use Rattle.ladder_machine.specs.declared.Held.{Held}
use Rattle.ladder_machine.specs.Held.{counts_empty, held_forward}
use Rattle.ladder_reader.specs.declared.Column.{Column}
use Rattle.ladder_reader.specs.declared.Column.TheVariants.{Values, Derivatives}
pub mod Open

-- ---- what a slot is tested against

-- value k: rungs 0 and 1 are worked out afresh, and each later one from the two slots before it: rung 2 of V below 0
-- at f = 0 is x times slot 1, and any other a step of the recurrence
unfoldable pub value_over : Sequence → List Float → ℕ → Float
value_over r l zero = (start_rungs r).0
value_over r l (suc zero) = (start_rungs r).1
value_over r l (suc (suc k)) = next_rung r.function r.below r.x r.f (k + 2) (slot l k) (slot l (k + 1))

-- derivative k: the formula over slots k and k + 1 of the values (`derivative_over`)

-- whether slots 0 to n − 1 are alike with what they are tested against
unfoldable pub all_alike : (ℕ → Float) → List Float → ℕ → Bool
all_alike due l zero = true
all_alike due l (suc n) = all_alike due l n && alike (slot l n) (due n)

-- ---- the tests, in their order

-- values 0 to n and derivatives 0 to n − 1
unfoldable pub holds_rungs : Sequence → ℕ → List Float → List Float → Bool
holds_rungs r n values derivatives =
    all_alike (value_over r values) values (n + 1) && all_alike (derivative_over r values) derivatives n

-- 6: the state counts as empty, or its branch does not run forward; 3: a table is too short; 7: a rung differs
pub tested : Held → List Float → List Float → ℕ
tested h values derivatives =
    cond (counts_empty h || not (held_forward h)) 6
    (cond (too_short h.n (length values) (length derivatives)) 3
    (cond (holds_rungs h.sequence h.n values derivatives) 0 7))

-- ---- the column named: n + 1 values or n derivatives

unfoldable pub column_held : Column → ℕ → List Float → List Float → List Float
column_held Values n values derivatives = take (n + 1) values
column_held Derivatives n values derivatives = take n derivatives

-- what is lent back where there is no refusal
unfoldable pub tested_part : Column → Held → List Float → List Float → Option (List Float)
tested_part which h values derivatives =
    cond (eqb (tested h values derivatives) 0) (some (column_held which h.n values derivatives)) none

-- an answer in these words
unfoldable pub part_of : Result (Bor (List Float)) Refusal → Option (List Float)
part_of (Ok part) = some part.now
part_of (Err refusal) = none
