-- The columns in two lists: a turn of the derivatives' loop, and what the two calls leave together.
use Rattle.std.proofs.Common.{◌≡◌, ◌∙◌, List, true, false, ℕ, ◌+◌, ◌<◌, zero-add, arith, length, get_or, set}
use Rattle.std.specs.Float.Ieee.{Float, nan}
use Rattle.order.specs.declared.Sequence.{Sequence}
use Rattle.derivatives.specs.Derivatives.{derivative}
use Rattle.rungs.specs.ColumnValues.{value, derivative_at}
use Rattle.slots.specs.Slots.{filled, slot}
use Rattle.value_column.specs.OverSlots.{derivative_over}
use Rattle.slots.proofs.Filled.{filled_more, filled_same}
use Rattle.value_column.specs.ValueColumn.{all_values}
use Rattle.value_column.proofs.Branches.{all_values_law, over_values}
use Rattle.ladder_columns.specs.Columns.{room_for, value_column, derivative_column}
use Rattle.ladder_columns.specs.Columns.Open.{value_column_is, derivative_column_is}
use Rattle.ladder_columns.proofs.Room.{columns_room}

-- ---- a derivative, over the values of another table

module _ (r : Sequence) where
  pub derived_over : (k : ℕ) (w : Float) (values t l : List Float) → t ≡ filled (derivative_over r values) 0 0 k l
      → w ≡ derivative r.function r.below r.x r.f k (get_or values k nan) (get_or values (k + 1) nan) → set t k w ≡ filled (derivative_over r values) 0 0 (k + 1) l
  unfolding derivative_over slot
  derived_over k w values t l et er = rw (er, et) (rw zero-add at (filled_more (derivative_over r values) 0 0 k l))

-- ---- both columns

module _ (r : Sequence) (u : Float) (n : ℕ) (l : List Float) where
  -- the derivatives over the values that are there then
  pub derivatives_law : (d : List Float) → n < length l
      → filled (derivative_over r (filled (value r u n) 0 0 (n + 1) l)) 0 0 n d ≡ filled (derivative_at r u n) 0 0 n d
  derivatives_law d room =
      filled_same (derivative_over r (filled (value r u n) 0 0 (n + 1) l)) (derivative_at r u n) 0 0 0 n d
      (λ k b. over_values r u n l room (0 + k) (omega arith))

  pub derivative_column_law : (l1 d d1 : List Float) → n < length l → l1 ≡ filled (value r u n) 0 0 (n + 1) l
      → d1 ≡ filled (derivative_over r l1) 0 0 n d → d1 ≡ filled (derivative_at r u n) 0 0 n d
  derivative_column_law l1 d d1 room e1 e2 = e2 ∙ rw e1 (derivatives_law d room)

  -- the columns with room, and without it
  pub columns_filled : (l1 d d1 : List Float) → room_for n (length l) (length d) ≡ true → l1 ≡ all_values r u n l
      → d1 ≡ filled (derivative_over r l1) 0 0 n d
      → (l1 ≡ value_column r u n l (length d)) × (d1 ≡ derivative_column r u n (length l) d)
  columns_filled l1 d d1 room e e2 =
      let w = columns_room n (length l) (length d) room in
      let e1 = e ∙ all_values_law r u n l w.0 w.1 w.2 in (
        rw (value_column_is r u n l (length d), room) e1,
        rw (derivative_column_is r u n (length l) d, room) (derivative_column_law l1 d d1 w.2 e1 e2),
      )

  pub columns_left : (d : List Float) → room_for n (length l) (length d) ≡ false
      → (l ≡ value_column r u n l (length d)) × (d ≡ derivative_column r u n (length l) d)
  columns_left d room = (rw (value_column_is r u n l (length d), room), rw (derivative_column_is r u n (length l) d, room))

  -- for the crates above: what both columns are where there is room
  pub value_column_with_room : (derivatives : ℕ) → room_for n (length l) derivatives ≡ true
      → value_column r u n l derivatives ≡ filled (value r u n) 0 0 (n + 1) l
  value_column_with_room derivatives room = rw (value_column_is r u n l derivatives, room)

  pub derivative_column_with_room : (values : ℕ) → room_for n values (length l) ≡ true
      → derivative_column r u n values l ≡ filled (derivative_at r u n) 0 0 n l
  derivative_column_with_room values room = rw (derivative_column_is r u n values l, room)

-- what both columns are, with room and without it, for `fill_columns`
pub ruleset column_laws = (value_column_is, derivative_column_is, columns_room, all_values_law, derivatives_law)
