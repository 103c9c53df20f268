-- The two columns of a table, values and derivatives, in two lists (01, "Splitting the order" and "Upward, downward,
-- scaled").
use Rattle.std.specs.Prelude.{List, ℕ, ◌+◌, Bool, ◌&&◌, cond, leb, length, Float}
use Rattle.order.specs.declared.Sequence.{Sequence}
use Rattle.rungs.specs.ColumnValues.{value, derivative_at}
use Rattle.slots.specs.Slots.{filled}
use Rattle.value_column.specs.ValueColumn.{room_up_to}
pub mod Open

-- whether columns of these lengths hold the rungs 0 to n: there are n + 1 values and n derivatives
unfoldable pub room_for : ℕ → ℕ → ℕ → Bool
room_for n values derivatives = room_up_to n values && leb n derivatives

-- values 0 to n and derivatives 0 to n − 1 in columns that have room for both, and else nothing
pub value_column : Sequence → Float → ℕ → List Float → ℕ → List Float
value_column r u n l derivatives = cond (room_for n (length l) derivatives) (filled (value r u n) 0 0 (n + 1) l) l

pub derivative_column : Sequence → Float → ℕ → ℕ → List Float → List Float
derivative_column r u n values l = cond (room_for n values (length l)) (filled (derivative_at r u n) 0 0 n l) l
