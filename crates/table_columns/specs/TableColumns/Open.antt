-- What each shut definition is, for the proofs of this crate. No other crate cites this module.
use Rattle.std.specs.Prelude.{◌≡◌, refl, List, Bool, ◌&&◌, cond, eqb, ℕ, ◌+◌, length, Float}
use Rattle.floats.specs.declared.Function.{Function}
use Rattle.order.specs.declared.Sequence.{Sequence}
use Rattle.recurrence.specs.Recurrence.{own_rung_two}
use Rattle.rungs.specs.ColumnValues.{value, derivative_at}
use Rattle.slots.specs.Slots.{filled}
use Rattle.table_columns.specs.TableColumns.{room_in, values_in, both_columns}

pub both_columns_is : (r : Sequence) (u : Float) (n num : ℕ) (l : List Float)
    → both_columns r u n num l
    ≡ cond (room_in n num (length l))
    (filled (derivative_at r u n) 0 num n (filled (value r u n) 0 0 (values_in r.function r.below r.f n) l))
    l
unfolding both_columns
both_columns_is r u n num l = refl

pub values_in_is : (fn : Function) (below : Bool) (f : Float) (n : ℕ)
    → values_in fn below f n ≡ cond (own_rung_two fn below f && eqb n 1) 3 (n + 1)
unfolding values_in
values_in_is fn below f n = refl
