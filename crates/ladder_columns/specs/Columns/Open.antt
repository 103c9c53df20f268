-- What each shut definition is, for the proofs of this crate. No other crate cites this module.
use Rattle.std.specs.Prelude.{◌≡◌, List, cond, ℕ, ◌+◌, length, Float}
use Rattle.std.proofs.Math.Path.{refl}
use Rattle.order.specs.declared.Sequence.{Sequence}
use Rattle.rungs.specs.ColumnValues.{value, derivative_at}
use Rattle.slots.specs.Slots.{filled}
use Rattle.ladder_columns.specs.Columns.{room_for, value_column, derivative_column}

module _ (r : Sequence) (u : Float) (n : ℕ) where
  pub value_column_is : (l : List Float) (derivatives : ℕ)
      → value_column r u n l derivatives ≡ cond (room_for n (length l) derivatives) (filled (value r u n) 0 0 (n + 1) l) l
  unfolding value_column
  value_column_is l derivatives = refl

  pub derivative_column_is : (values : ℕ) (l : List Float)
      → derivative_column r u n values l ≡ cond (room_for n values (length l)) (filled (derivative_at r u n) 0 0 n l) l
  unfolding derivative_column
  derivative_column_is values l = refl
