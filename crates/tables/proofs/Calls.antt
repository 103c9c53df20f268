-- What a request is refused, leaves and answers, from what its parts do.
use Rattle.std.proofs.Common.{◌≡◌, sym, ◌∙◌, List, inl, false, cond, ℕ, ◌+◌, ◌-◌, ◌*◌, ◌≤◌, ◌<◌, zero-add}
use Rattle.std.proofs.Common.{arith, eq-eqb, ne_eqb, lt-ltb, le-ltb, ltb-false, ltb, length, Float}
use Rattle.std.proofs.Math.Option.{Option, some, none}
use Rattle.std.specs.Float.Ieee.{nan, is_nan}
use Rattle.order.specs.Order.{too_large, below, shifted, fraction_of, top_rung, num}
use Rattle.order.specs.Facts.{Split}
use Rattle.order.specs.declared.Sequence.{Sequence}
use Rattle.order.proofs.Laws.{num_least}
use Rattle.table_refusals.specs.Refusals.{refusal_by}
use Rattle.table_refusals.proofs.Laws.{not_refused, accepted_by, refused_before, by_short}
use Rattle.floats.specs.declared.Function.{Function}
use Rattle.floats.specs.declared.Function.TheVariants.{D}
use Rattle.recurrence.proofs.Laws.{no_own_two}
use Rattle.rungs.specs.ColumnValues.{value, derivative_at}
use Rattle.slots.specs.Slots.{filled, slot}
use Rattle.table_columns.specs.TableColumns.{values_in, both_columns}
use Rattle.table_columns.proofs.Room.{room_in_law}
use Rattle.table_columns.proofs.Tables.{values_in_law, plain_values, both_filled}
use Rattle.tables.specs.Tables.{refusal, sequence_of, value_of, derivative_of, values_written, table_after, answer}
use Rattle.tables.specs.Tables.Open.{refusal_is, values_written_is, table_after_is, answer_is}
use Rattle.slots.proofs.Filled.{length_filled, filled_in, filled_out}
use Rattle.value_column.proofs.Branches.{slot_filled}
-- passed on: the two columns
pub use Rattle.tables.specs.Tables.Open.{value_of_is, derivative_of_is}

-- ---- the refusal

module _ (v x : Float) (slots : ℕ) where
  pub refusal_short : refusal_by v x (ltb slots (2 * num v)) ≡ refusal v x slots
  refusal_short = sym (refusal_is v x slots)

  -- 1 and 2, whatever the length, and then 3; m is num, as the calls give it
  pub refused_early : (refusal_by v x false ≡ 0 → ⊥) → refusal_by v x false ≡ refusal v x slots
  refused_early h = refused_before v x (ltb slots (2 * num v)) h ∙ refusal_short

  module _ (m : ℕ) (clear : refusal_by v x false ≡ 0) (em : m ≡ num v) where
    by_length : refusal v x slots ≡ cond (ltb slots (2 * m)) 3 0
    by_length = rw em (refusal_is v x slots ∙ by_short v x (ltb slots (2 * num v)) clear)

    pub too_short : slots < 2 * m → refusal v x slots ≡ 3
    too_short h = rw (lt-ltb slots (2 * m) h) at by_length

    pub long_enough : 2 * m ≤ slots → refusal v x slots ≡ 0
    long_enough h = rw (le-ltb slots (2 * m) h) at by_length

  pub not_refused_long : is_nan v ≡ false → is_nan x ≡ false → too_large v ≡ false → 2 * num v ≤ slots → refusal v x slots ≡ 0
  not_refused_long a b c d = sym (not_refused v x (ltb slots (2 * num v)) a b c (le-ltb slots (2 * num v) d) ∙ refusal_short)

  pub accepted : refusal v x slots ≡ 0 → (is_nan v ≡ false) × (is_nan x ≡ false) × (too_large v ≡ false) × (2 * num v ≤ slots)
  accepted e =
      let p = accepted_by v x (ltb slots (2 * num v)) (refusal_short ∙ e) in
      (p.0, p.1, p.2, ltb-false slots (2 * num v) p.3)

-- ---- its rungs, by the parts of its order

-- of D just values 0 to n are written
pub values_of_D : (v : Float) → values_written D v ≡ top_rung v + 1
values_of_D v = values_written_is D v ∙ plain_values D (below v) (fraction_of v) (top_rung v) (no_own_two (below v) (fraction_of v))

-- ---- the whole call: the table after it, and its answer

module _ (fn : Function) (v x : Float) (l : List Float) where
  pub left_as_found : (r : ℕ) → r ≡ refusal v x (length l) → (r ≡ 0 → ⊥) → (none ≡ answer fn v x (length l)) × (l ≡ table_after fn v x l)
  left_as_found r e h =
      let z = ne_eqb (refusal v x (length l)) 0 (λ q. h (e ∙ q)) in
      (rw (answer_is fn v x (length l), z), rw (table_after_is fn v x l, z))

  module _ (ok : refusal v x (length l) ≡ 0) (facts : Split (below v) (shifted v) (fraction_of v) (top_rung v) (num v)) where
    room : 2 * num v ≤ length l
    room = (accepted v x (length l) ok).3

    written_bound : (top_rung v + 1 ≤ values_written fn v) × (values_written fn v ≤ top_rung v + 2)
    written_bound = rw (values_written_is fn v) (values_in_law fn (below v) (fraction_of v) (top_rung v))

    -- the table of an accepted request
    pub after_accepted : table_after fn v x l ≡ filled (derivative_of fn v x) 0 (num v) (top_rung v) (filled (value_of fn v x) 0 0 (values_written fn v) l)
    after_accepted = rw (table_after_is fn v x l, eq-eqb (refusal v x (length l)) 0 ok)

    pub answer_accepted : answer fn v x (length l) ≡ some (value_of fn v x (top_rung v - 1), derivative_of fn v x (top_rung v - 1))
    answer_accepted = rw (answer_is fn v x (length l), eq-eqb (refusal v x (length l)) 0 ok)

    pub table_keeps : length (table_after fn v x l) ≡ length l
    table_keeps =
        rw after_accepted
        (length_filled (derivative_of fn v x) 0 (num v) (top_rung v) (filled (value_of fn v x) 0 0 (values_written fn v) l)
        ∙ length_filled (value_of fn v x) 0 0 (values_written fn v) l)

    -- its slots
    pub value_slot : (k : ℕ) → k ≤ top_rung v → slot (table_after fn v x l) k ≡ value_of fn v x k
    unfolding slot
    value_slot k h =
        rw after_accepted
        (filled_out (derivative_of fn v x) 0 (num v) (top_rung v) (filled (value_of fn v x) 0 0 (values_written fn v) l) nan k (inl (omega (arith, facts.room)))
        ∙ slot_filled (value_of fn v x) (values_written fn v) l k (omega (arith, written_bound)) (omega (arith, written_bound, facts.room, num_least v, room)))

    pub derivative_slot : (k : ℕ) → k < top_rung v → slot (table_after fn v x l) (num v + k) ≡ derivative_of fn v x k
    unfolding slot
    derivative_slot k h =
        let w = filled (value_of fn v x) 0 0 (values_written fn v) l in
        let e : length w ≡ length l = length_filled (value_of fn v x) 0 0 (values_written fn v) l in
        rw (after_accepted) (rw zero-add at (filled_in (derivative_of fn v x) 0 (num v) (top_rung v) w nan k h (omega (arith, facts.room, room))))

    -- what the parts found and left, put together
    pub settled : (r : Sequence) (u : Float) (n m : ℕ) (l1 : List Float) (pair : Option (Float × Float))
        → r ≡ sequence_of fn v x → u ≡ shifted v → n ≡ top_rung v → m ≡ num v → l1 ≡ both_columns r u n m l
        → pair ≡ some (slot l1 (n - 1), slot l1 (m + (n - 1)))
        → (pair ≡ answer fn v x (length l)) × (l1 ≡ table_after fn v x l)
    settled r u n m l1 pair er eu en em e1 ep =
        let in_room = room_in_law (top_rung v) (num v) (length l) facts.least facts.most facts.room (num_least v) room in
        let both : l1 ≡ filled (derivative_at (sequence_of fn v x) (shifted v) (top_rung v)) 0 (num v) (top_rung v) (filled (value (sequence_of fn v x) (shifted v) (top_rung v)) 0 0 (values_in fn (below v) (fraction_of v) (top_rung v)) l) =
        e1 ∙ rw (er, eu, en, em) (both_filled (sequence_of fn v x) (shifted v) (top_rung v) (num v) l in_room) in
        let after : l1 ≡ table_after fn v x l = both ∙ rw (after_accepted, derivative_of_is fn v x, value_of_is fn v x, values_written_is fn v) in
        let low : slot l1 (n - 1) ≡ value_of fn v x (top_rung v - 1) = rw (after, en) (value_slot (top_rung v - 1) (omega (arith, facts.least))) in
        let high : slot l1 (m + (n - 1)) ≡ derivative_of fn v x (top_rung v - 1) =
        rw (after, en, em) (derivative_slot (top_rung v - 1) (omega (arith, facts.least))) in
        (ep ∙ rw (low, high, answer_accepted), after)
