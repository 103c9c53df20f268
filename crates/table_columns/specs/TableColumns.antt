-- The two columns of a table, values and derivatives, in one list (01, "Splitting the order" and "Upward, downward,
-- scaled").
use Rattle.std.specs.Prelude.{List, ℕ, ◌+◌, ◌*◌, Bool, ◌&&◌, cond, eqb, leb, length, Float}
use Rattle.floats.specs.declared.Function.{Function}
use Rattle.order.specs.declared.Sequence.{Sequence}
use Rattle.recurrence.specs.Recurrence.{own_rung_two}
use Rattle.rungs.specs.ColumnValues.{value, derivative_at}
use Rattle.slots.specs.Slots.{filled}
use Rattle.value_column.specs.ValueColumn.{room_up_to}
pub mod Open

-- whether a table holds both columns of num slots each, with room for value 2, which V has also at n = 1
unfoldable pub room_in : ℕ → ℕ → ℕ → Bool
room_in n num slots = room_up_to n num && leb 3 num && leb (2 * num) slots

-- how many values are written: 0 to n; V with v < 0, f = 0 and n = 1 has value 2 as well
pub values_in : Function → Bool → Float → ℕ → ℕ
values_in fn below f n = cond (own_rung_two fn below f && eqb n 1) 3 (n + 1)

-- values from slot 0 on and derivatives 0 to n − 1 from slot num on, in a table that has room for both, and else
-- nothing
pub both_columns : Sequence → Float → ℕ → ℕ → List Float → List Float
both_columns r u n num l =
    cond (room_in n num (length l))
    (filled (derivative_at r u n) 0 num n (filled (value r u n) 0 0 (values_in r.function r.below r.f n) l))
    l
