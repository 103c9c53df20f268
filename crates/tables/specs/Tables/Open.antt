-- What each shut definition is, for the proofs of this crate. No other crate cites this module.
use Rattle.std.specs.Prelude.{◌≡◌, List, ℕ, ◌-◌, ◌*◌, cond, eqb, ltb, length, Float}
use Rattle.std.proofs.Math.Path.{refl}
use Rattle.std.proofs.Math.Option.{some, none}
use Rattle.answer.specs.Answer.{answer_by}
use Rattle.order.specs.Order.{below, shifted, fraction_of, top_rung, num}
use Rattle.table_refusals.specs.Refusals.{refusal_by}
use Rattle.floats.specs.declared.Function.{Function}
use Rattle.rungs.specs.ColumnValues.{value, derivative_at}
use Rattle.slots.specs.Slots.{filled}
use Rattle.table_columns.specs.TableColumns.{values_in}
use Rattle.tables.specs.Tables.{refusal, sequence_of, value_of, derivative_of, values_written, table_after, answer}

pub refusal_is : (v x : Float) (slots : ℕ) → refusal v x slots ≡ refusal_by v x (ltb slots (2 * num v))
unfolding refusal
refusal_is v x slots = refl

pub values_written_is : (fn : Function) (v : Float)
    → values_written fn v ≡ values_in fn (below v) (fraction_of v) (top_rung v)
unfolding values_written
values_written_is fn v = refl

module _ (fn : Function) (v x : Float) where
  pub value_of_is : value_of fn v x ≡ value (sequence_of fn v x) (shifted v) (top_rung v)
  unfolding value_of
  value_of_is = refl

  pub derivative_of_is : derivative_of fn v x ≡ derivative_at (sequence_of fn v x) (shifted v) (top_rung v)
  unfolding derivative_of
  derivative_of_is = refl

  pub table_after_is : (l : List Float)
      → table_after fn v x l
      ≡ cond (eqb (refusal v x (length l)) 0)
      (filled (derivative_of fn v x) 0 (num v) (top_rung v) (filled (value_of fn v x) 0 0 (values_written fn v) l)) l
  unfolding table_after
  table_after_is l = refl

  pub answer_is : (slots : ℕ)
      → answer fn v x slots
      ≡ cond (eqb (refusal v x slots) 0)
      (some (value_of fn v x (top_rung v - 1), derivative_of fn v x (top_rung v - 1))) none
  unfolding answer answer_by
  answer_is slots = refl
