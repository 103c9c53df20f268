-- What the shut definition is, for the proofs of this crate. No other crate cites this module.
use Rattle.std.specs.Prelude.{◌≡◌, refl, List, cond, ℕ, ◌+◌, length, Float}
use Rattle.order.specs.declared.Sequence.{Sequence}
use Rattle.rungs.specs.ColumnValues.{value}
use Rattle.slots.specs.Slots.{filled}
use Rattle.value_column.specs.ValueColumn.{room_up_to, all_values}

pub all_values_is : (r : Sequence) (u : Float) (n : ℕ) (l : List Float)
    → all_values r u n l ≡ cond (room_up_to n (length l)) (filled (value r u n) 0 0 (n + 1) l) l
unfolding all_values
all_values_is r u n l = refl
