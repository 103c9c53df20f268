-- The state that holds an accepted request: its machine, its pair, and the table call's slots.
use Rattle.std.proofs.Common.{◌≡◌, sym, ap, ◌∙◌, false, List, ℕ, ◌+◌, ◌-◌, ◌*◌, ◌≤◌, ◌<◌, arith, T, length, Float}
use Rattle.std.proofs.Math.Option.{some}
use Rattle.std.specs.Float.{binary64}
use Rattle.std.specs.Float.Ieee.{fits, is_nan}
use Rattle.order.specs.Order.{below, shifted, fraction_of, top_rung, num}
use Rattle.order.specs.Facts.{InRange, Split}
use Rattle.order.proofs.Facts.{split_facts}
use Rattle.order.proofs.Laws.{fraction_number, fraction_small}
use Rattle.derivatives.specs.Derivatives.{derivative}
use Rattle.rungs.proofs.Laws.{derivative_at_law}
use Rattle.tables.specs.Tables.{refusal, sequence_of, value_of, derivative_of, answer}
use Rattle.tables.proofs.Calls.{not_refused_long, value_of_is, derivative_of_is, value_slot, derivative_slot, answer_accepted, table_keeps}
use Rattle.ladder_machine.specs.declared.Request.{Request}
use Rattle.ladder_machine.specs.Machine.{holding}
use Rattle.ladder_machine.specs.Held.{counts_empty, machine_of}
use Rattle.ladder_machine.proofs.Laws.{machine_holding, not_counted_empty}
use Rattle.ladder_states.specs.States.{held_in}
use Rattle.ladder.specs.Ladder.{state_for, pair_from}
use Rattle.ladder.specs.Ladder.Open.{state_for_is, pair_from_is}
use Rattle.ladder_lists.specs.Demand3.{Long, tabled, tabled_value, tabled_derivative, held_after}

-- a request that 1 and 2 let pass; its numbers are f64s
pub record Known (q : Request) : Type 0 where
  pub order : InRange q.v
  pub argument : is_nan q.x ≡ false
  pub fit : T (fits binary64 q.x)

-- a derivative of a request, by its formula over two values
pub derivative_by : (q : Request) (k : ℕ)
    → derivative_of q.function q.v q.x k
    ≡ derivative q.function (below q.v) q.x (fraction_of q.v) k (value_of q.function q.v q.x k) (value_of q.function q.v q.x (k + 1))
derivative_by q k =
    ap (λ (g : ℕ → Float). g k) (derivative_of_is q.function q.v q.x)
    ∙ derivative_at_law (sequence_of q.function q.v q.x) (shifted q.v) (top_rung q.v) k
    ∙ rw (value_of_is q.function q.v q.x)

module _ (q : Request) (known : Known q) where
  pub facts : Split (below q.v) (shifted q.v) (fraction_of q.v) (top_rung q.v) (num q.v)
  facts = split_facts q.v known.order

  -- the state that holds its rungs up to n
  module _ (n : ℕ) (least : 1 ≤ n) (most : n ≤ top_rung q.v) where
    pub state_held : counts_empty (held_in (state_for q n)) ≡ false
    state_held =
        rw (state_for_is q n)
        (not_counted_empty _ least (omega (arith, facts.most)) known.argument (fraction_number facts) (fraction_small facts))

    pub state_machine : machine_of (held_in (state_for q n)) ≡ holding q n
    state_machine =
        machine_holding (held_in (state_for q n)) q n state_held (rw (state_for_is q n))

    -- its pair is value and derivative n − 1
    pub state_pair : pair_from (state_for q n) ≡ (value_of q.function q.v q.x (n - 1), derivative_of q.function q.v q.x (n - 1))
    state_pair = let e : n - 1 + 1 ≡ n = omega arith in pair_from_is (state_for q n) ∙ rw (state_for_is q n, derivative_by q (n - 1), e)

  -- ---- the table call on a table long enough

  module _ (table : Request → List Float) (long : Long table) where
    table_room : 2 * num q.v ≤ length (table q)
    table_room = long q known.order.number known.order.small

    ok : refusal q.v q.x (length (table q)) ≡ 0
    ok = not_refused_long q.v q.x (length (table q)) known.order.number known.argument known.order.small table_room

    pub table_value : (k : ℕ) → k ≤ top_rung q.v → tabled_value table q k ≡ value_of q.function q.v q.x k
    unfolding tabled_value tabled
    table_value k h = value_slot q.function q.v q.x (table q) ok facts k h

    pub table_derivative : (k : ℕ) → k < top_rung q.v → tabled_derivative table q k ≡ derivative_of q.function q.v q.x k
    unfolding tabled_derivative tabled
    table_derivative k h = derivative_slot q.function q.v q.x (table q) ok facts k h

    pub table_pair : answer q.function q.v q.x (length (table q)) ≡ some (pair_from (state_for q (top_rung q.v)))
    table_pair = answer_accepted q.function q.v q.x (table q) ok facts ∙ ap some (sym (state_pair (top_rung q.v) facts.least (omega arith)))

    -- the answer is slot n − 1 of both columns
    pub table_answer : answer q.function q.v q.x (length (table q)) ≡ some (tabled_value table q (top_rung q.v - 1), tabled_derivative table q (top_rung q.v - 1))
    table_answer =
        answer_accepted q.function q.v q.x (table q) ok facts
        ∙ rw (table_value (top_rung q.v - 1) (omega arith), table_derivative (top_rung q.v - 1) (omega (arith, facts.least)))

    pub state_after : (n : ℕ) → n ≤ top_rung q.v → state_for q n ≡ held_after table q n
    unfolding held_after
    state_after n h = rw (table_value (n - 1) (omega arith), table_value n h) (state_for_is q n)

    pub table_length : num q.v + top_rung q.v ≤ length (tabled table q)
    unfolding tabled
    table_length = omega (arith, facts.room, table_room, table_keeps q.function q.v q.x (table q) ok facts)
