-- The table call slot by slot, from the laws of `filled`.
use Rattle.std.proofs.Common.{◌≡◌, refl, sym, ◌∙◌, List, ◌⊎◌, inl, inr, true, ℕ, ◌+◌, ◌-◌, ◌≤◌, ◌<◌, arith, T, length}
use Rattle.std.proofs.Common.{Float}
use Rattle.std.specs.Float.Ieee.{nan, binary64, fits}
use Rattle.order.specs.Order.{below, shifted, fraction_of, top_rung, num}
use Rattle.order.specs.Facts.{Split}
use Rattle.table_refusals.proofs.Laws.{order_facts}
use Rattle.order.proofs.Laws.{num_least}
use Rattle.floats.specs.declared.Function.{Function}
use Rattle.recurrence.specs.Recurrence.{own_rung_two}
use Rattle.slots.specs.Slots.{filled, slot}
use Rattle.tables.specs.Tables.{refusal, value_of, derivative_of, values_written, table_after}
use Rattle.tables.specs.Tables.Open.{values_written_is}
use Rattle.tables.specs.Slots.{Slots, Untouched}
use Rattle.slots.proofs.Filled.{filled_out}
use Rattle.value_column.proofs.Branches.{slot_filled}
use Rattle.table_columns.proofs.Tables.{three_values}
use Rattle.tables.proofs.Calls.{refusal_short, accepted, left_as_found, after_accepted, answer_accepted, table_keeps, value_slot, derivative_slot}

module _ (fn : Function) (v x : Float) (l : List Float) where
  -- A REFUSAL changes nothing
  pub untouched : (refusal v x (length l) ≡ 0 → ⊥) → Untouched fn v x l
  untouched h = let p = left_as_found fn v x l (refusal v x (length l)) refl h in record { as_found = sym p.1; no_pair = sym p.0 }

  module _ (fit : T (fits binary64 v)) (ok : refusal v x (length l) ≡ 0) where
    facts : Split (below v) (shifted v) (fraction_of v) (top_rung v) (num v)
    facts = order_facts v x _ fit (refusal_short v x (length l) ∙ ok)

    last_value : slot (table_after fn v x l) (top_rung v - 1) ≡ value_of fn v x (top_rung v - 1)
    last_value = value_slot fn v x l ok facts (top_rung v - 1) (omega arith)

    last_derivative : slot (table_after fn v x l) (num v + (top_rung v - 1)) ≡ derivative_of fn v x (top_rung v - 1)
    last_derivative = derivative_slot fn v x l ok facts (top_rung v - 1) (omega (arith, facts.least))

    two : own_rung_two fn (below v) (fraction_of v) ≡ true → top_rung v ≡ 1 → slot (table_after fn v x l) 2 ≡ value_of fn v x 2
    unfolding slot
    two own one =
        let w : values_written fn v ≡ 3 = values_written_is fn v ∙ three_values fn (below v) (fraction_of v) (top_rung v) own one in
        rw (after_accepted fn v x l ok facts)
        (filled_out (derivative_of fn v x) 0 (num v) (top_rung v) (filled (value_of fn v x) 0 0 (values_written fn v) l) nan 2 (inl (omega (arith, num_least v)))
        ∙ slot_filled (value_of fn v x) (values_written fn v) l 2 (omega arith) (omega (arith, num_least v, (accepted v x (length l) ok).3)))

    other : (k : ℕ) → values_written fn v ≤ k → (k < num v) ⊎ (num v + top_rung v ≤ k) → slot (table_after fn v x l) k ≡ slot l k
    unfolding slot
    other k h q =
        rw (after_accepted fn v x l ok facts)
        (filled_out (derivative_of fn v x) 0 (num v) (top_rung v) (filled (value_of fn v x) 0 0 (values_written fn v) l) nan k q
        ∙ filled_out (value_of fn v x) 0 0 (values_written fn v) l nan k (inr (omega arith)))

    -- THE SLOTS of an accepted request
    pub slots : Slots fn v x l
    slots = record {
      same_length = table_keeps fn v x l ok facts;
      values = value_slot fn v x l ok facts;
      derivatives = derivative_slot fn v x l ok facts;
      own_two = two;
      others = other;
      answered = rw (last_value, last_derivative) (answer_accepted fn v x l ok facts);
    }
