-- The value column of a table (01, "Splitting the order" and "Upward, downward, scaled").
use Rattle.std.specs.Prelude.{List, ℕ, ◌+◌, Bool, ◌&&◌, cond, ltb, leb, length, Float}
use Rattle.order.specs.declared.Sequence.{Sequence}
use Rattle.rungs.specs.ColumnValues.{value}
use Rattle.slots.specs.Slots.{filled}
pub mod Open

-- whether a column of this length holds the rungs 0 to n: n is 1 to 1000, as in every order, and there are n + 1 slots
unfoldable pub room_up_to : ℕ → ℕ → Bool
room_up_to n slots = leb 1 n && leb n 1000 && ltb n slots

-- values 0 to n in a column that has room for them, and else nothing
pub all_values : Sequence → Float → ℕ → List Float → List Float
all_values r u n l = cond (room_up_to n (length l)) (filled (value r u n) 0 0 (n + 1) l) l
