-- The table calls of D and V (01, "A request comes in" and "Splitting the order"): which requests are refused, what a
-- request answers, and what it leaves of the table that was lent.
use Rattle.std.specs.Prelude.{List, ℕ, ◌-◌, ◌*◌, cond, eqb, ltb, length, Float}
use Rattle.std.proofs.Math.Option.{Option}
use Rattle.answer.specs.Answer.{answer_by}
use Rattle.order.specs.Order.{below, shifted, fraction_of, top_rung, num}
use Rattle.table_refusals.specs.Refusals.{refusal_by}
use Rattle.floats.specs.declared.Function.{Function}
use Rattle.order.specs.declared.Sequence.{Sequence}
use Rattle.rungs.specs.ColumnValues.{value, derivative_at}
use Rattle.slots.specs.Slots.{filled}
use Rattle.table_columns.specs.TableColumns.{values_in}
pub mod Open

-- ---- a request: a function, an order v, an argument x, and a table

-- a table below 2·num slots is too short
pub refusal : Float → Float → ℕ → ℕ
refusal v x slots = refusal_by v x (ltb slots (2 * num v))

-- which rungs it has
abbrev pub sequence_of : Function → Float → Float → Sequence
sequence_of fn v x = record { function = fn; below = below v; x = x; f = fraction_of v }

-- value k and derivative k. They stand at the slots k and num + k.
pub value_of : Function → Float → Float → ℕ → Float
value_of fn v x = value (sequence_of fn v x) (shifted v) (top_rung v)

pub derivative_of : Function → Float → Float → ℕ → Float
derivative_of fn v x = derivative_at (sequence_of fn v x) (shifted v) (top_rung v)

-- how many values are written: 0 to n, and value 2 where V has it at n = 1
pub values_written : Function → Float → ℕ
values_written fn v = values_in fn (below v) (fraction_of v) (top_rung v)

-- the table after the call: its values, and derivatives 0 to n − 1 from slot num on; a refusal leaves it as found
pub table_after : Function → Float → Float → List Float → List Float
table_after fn v x l =
    cond (eqb (refusal v x (length l)) 0)
    (filled (derivative_of fn v x) 0 (num v) (top_rung v) (filled (value_of fn v x) 0 0 (values_written fn v) l))
    l

-- what the call answers: value and derivative n − 1
pub answer : Function → Float → Float → ℕ → Option (Float × Float)
answer fn v x slots = answer_by (refusal v x slots) (value_of fn v x (top_rung v - 1), derivative_of fn v x (top_rung v - 1))
