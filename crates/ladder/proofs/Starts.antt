-- What a start-over leaves and holds, from what its parts find and fill.
use Rattle.std.proofs.Common.{◌≡◌, sym, ap, ◌∙◌, List, true, ℕ, ◌+◌, ◌-◌, ◌≤◌, ◌<◌, arith, T, length, Float}
use Rattle.std.specs.Float.{binary64}
use Rattle.std.specs.Float.Ieee.{fits}
use Rattle.order.specs.Order.{shifted, top_rung}
use Rattle.order.specs.declared.Sequence.{Sequence}
use Rattle.slots.specs.Slots.{filled, slot}
use Rattle.ladder_columns.specs.Columns.{room_for, value_column, derivative_column}
use Rattle.ladder_columns.proofs.Room.{room_for_law}
use Rattle.value_column.proofs.Branches.{slot_filled}
use Rattle.ladder_columns.proofs.Columns.{value_column_with_room, derivative_column_with_room}
use Rattle.tables.specs.Tables.{sequence_of, value_of, derivative_of}
use Rattle.tables.proofs.Calls.{value_of_is, derivative_of_is}
use Rattle.ladder_machine.specs.declared.Request.{Request}
use Rattle.ladder_machine.specs.Machine.{refusal}
use Rattle.ladder_machine.proofs.Laws.{accepted, accepted_facts}
use Rattle.ladder_states.specs.States.{state_of}
use Rattle.ladder.specs.Ladder.{state_for}
use Rattle.ladder.specs.Ladder.Open.{state_for_is}

module _ (q : Request) (values derivatives : ℕ) (fit : T (fits binary64 q.v)) (ok : refusal q values derivatives ≡ 0) where
  -- n is 1 to 1000, and both tables have room
  pub order_room : (1 ≤ top_rung q.v) × (top_rung q.v ≤ 1000) × (top_rung q.v < values) × (top_rung q.v ≤ derivatives)
  order_room =
      let facts = accepted_facts q values derivatives fit ok in
      let a = accepted q values derivatives ok in
      (facts.least, facts.most, a.3, a.4)

module _ (q : Request) (l d : List Float) (fit : T (fits binary64 q.v)) (ok : refusal q (length l) (length d) ≡ 0) where
  has_room : room_for (top_rung q.v) (length l) (length d) ≡ true
  has_room = let r = order_room q (length l) (length d) fit ok in room_for_law (top_rung q.v) (length l) (length d) r.0 r.1 r.2 r.3

  -- r, u and n are what the split gives, l1 and d1 what the fill leaves
  module _ (r : Sequence) (u : Float) (n : ℕ) (l1 d1 : List Float) (er : r ≡ sequence_of q.function q.v q.x) (eu : u ≡ shifted q.v)
      (en : n ≡ top_rung q.v) (el : l1 ≡ value_column r u n l (length d)) (ed : d1 ≡ derivative_column r u n (length l) d) where
    pub started_values : l1 ≡ filled (value_of q.function q.v q.x) 0 0 (top_rung q.v + 1) l
    started_values =
        el
        ∙ rw (er, eu, en) (value_column_with_room (sequence_of q.function q.v q.x) (shifted q.v) (top_rung q.v) l (length d) has_room)
        ∙ ap (λ (g : ℕ → Float). filled g 0 0 (top_rung q.v + 1) l) (sym (value_of_is q.function q.v q.x))

    pub started_derivatives : d1 ≡ filled (derivative_of q.function q.v q.x) 0 0 (top_rung q.v) d
    started_derivatives =
        ed
        ∙ rw (er, eu, en) (derivative_column_with_room (sequence_of q.function q.v q.x) (shifted q.v) (top_rung q.v) d (length l) has_room)
        ∙ ap (λ (g : ℕ → Float). filled g 0 0 (top_rung q.v) d) (sym (derivative_of_is q.function q.v q.x))

    pub started_state : state_of r n (slot l1 (n - 1)) (slot l1 n) ≡ state_for q (top_rung q.v)
    started_state =
        let v = value_of q.function q.v q.x in
        let room = order_room q (length l) (length d) fit ok in
        let low : slot l1 (top_rung q.v - 1) ≡ v (top_rung q.v - 1) = rw started_values (slot_filled v (top_rung q.v + 1) l (top_rung q.v - 1) (omega arith) (omega (arith, room))) in
        let high : slot l1 (top_rung q.v) ≡ v (top_rung q.v) = rw started_values (slot_filled v (top_rung q.v + 1) l (top_rung q.v) (omega arith) (omega (arith, room))) in
        rw (state_for_is q (top_rung q.v), er, en, low, high)
