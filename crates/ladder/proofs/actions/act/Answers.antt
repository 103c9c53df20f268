-- `ladder::actions::act` meets its contract: each arm's action is the clause of what the machine says.
use Rattle.std.proofs.Common.{◌≡◌, sym, ap, ◌≤◌, ◌<◌, arith, rules, length, T, Ok}
use Rattle.std.specs.Float.{binary64}
use Rattle.std.specs.Float.Ieee.{fits}
use Rattle.order.specs.Order.{top_rung}
use Rattle.ladder_machine.specs.declared.Case.{Case}
use Rattle.ladder_machine.specs.Machine.{refusal, repeats, climbs, starts_over}
use Rattle.ladder_machine.specs.Held.{verdict_of}
use Rattle.ladder_climb.proofs.Room.{room_above_law}
use Rattle.ladder.proofs.Outcomes.{repeat_held, climb_room, start_room, repeated_outcome, climbed_outcome, started_outcome, climbed_n, state_n}
use Rattle.ladder.proofs.actions.act.Goals as goal
use Rattle.ladder.proofs.actions.act.Goals.{In-Repeat, In-Climb, In-StartOver}

-- the case, in the machine's words
repeats-told : (c : In-Repeat) → verdict_of (Ok c.args.case) ≡ repeats c.in-Repeat.field-0
unfolding verdict_of
repeats-told c = ap (λ (k : Case). verdict_of (Ok k)) c.in-Repeat.is

climbs-told : (c : In-Climb) → verdict_of (Ok c.args.case) ≡ climbs c.in-Climb.from c.in-Climb.to
unfolding verdict_of
climbs-told c = ap (λ (k : Case). verdict_of (Ok k)) c.in-Climb.is

starts-told : (c : In-StartOver) → verdict_of (Ok c.args.case) ≡ starts_over c.in-StartOver.n
unfolding verdict_of
starts-told c = ap (λ (k : Case). verdict_of (Ok k)) c.in-StartOver.is

climb-fits : (c : In-Climb) → T (fits binary64 c.args.request.v)
climb-fits c = search rules

start-fits : (c : In-StartOver) → T (fits binary64 c.args.request.v)
start-fits c = search rules

-- room for a climb, and for a start-over
climbs-in : (c : In-Climb)
    → let g = c.args in
    let n = c.in-Climb.to in
    (1 ≤ g.state.held.n) × (g.state.held.n < n) × (n ≤ 1000) × (n < length g.values.now) × (n ≤ length g.derivatives.now) × (g.state.held.n ≡ c.in-Climb.from)
climbs-in c =
    let g = c.args in
    climb_room g.state g.request g.values.now g.derivatives.now _ c.requires (climb-fits c) _ _ (climbs-told c)

starts-in : (c : In-StartOver)
    → let g = c.args in
    let n = c.in-StartOver.n in
    (refusal g.request (length g.values.now) (length g.derivatives.now) ≡ 0) × (top_rung g.request.v ≡ n) × (1 ≤ n) × (n ≤ 1000)
starts-in c =
    let g = c.args in
    start_room g.state g.request g.values.now g.derivatives.now _ c.requires (start-fits c) _ (starts-told c)

repeats-held : (c : In-Repeat)
    → let g = c.args in
    (1 ≤ g.state.held.n) × (g.state.held.n ≡ c.in-Repeat.field-0)
repeats-held c =
    let g = c.args in
    repeat_held g.state g.request g.values.now g.derivatives.now _ c.requires _ (repeats-told c)

pub answer-requires : goal.answer-requires
answer-requires c = (repeats-held (goal.at.answer-requires c).In-Repeat).0

pub climb-requires : goal.climb-requires
climb-requires c =
    let r = climbs-in (goal.at.climb-requires c).In-Climb in
    room_above_law _ _ _ _ r.0 (omega (arith, r)) r.2 r.3 r.4

pub overflow_sub-to : goal.overflow_sub-to
overflow_sub-to c = omega (arith, climbs-in (goal.at.overflow_sub-to c).In-Climb)

pub answer-requires-in-Climb : goal.answer-requires-in-Climb
answer-requires-in-Climb c =
    let r = climbs-in (goal.at.answer-requires-in-Climb c).In-Climb in
    rw (c.climb.ensures.state, climbed_n _ _) (omega (arith, r))

pub start_over-requires : goal.start_over-requires
start_over-requires c =
    let r = starts-in (goal.at.start_over-requires c).In-StartOver in record { accepted = r.0; top = sym r.1 }

pub overflow_add-n : goal.overflow_add-n
overflow_add-n c = omega (arith, starts-in (goal.at.overflow_add-n c).In-StartOver)

pub answer-requires-in-StartOver : goal.answer-requires-in-StartOver
answer-requires-in-StartOver c =
    let r = starts-in (goal.at.answer-requires-in-StartOver c).In-StartOver in
    rw (c.start_over.ensures.state, state_n _ _) (omega (arith, r))

pub returns-in-Repeat : goal.returns-in-Repeat
returns-in-Repeat c =
    let told = (goal.at.returns-in-Repeat c).In-Repeat in
    repeated_outcome _ _ _ _ _ _ _ (repeats-told told) (repeats-held told).0 (repeats-held told).1 c.answer.ensures

pub returns-in-Climb : goal.returns-in-Climb
returns-in-Climb c =
    let told = (goal.at.returns-in-Climb c).In-Climb in
    let e = c.climb.ensures in
    climbed_outcome _ _ _ _ _ _ _ _ _ _ _ (climbs-told told) (climbs-in told).5 e.state e.values e.derivatives c.answer-in-Climb.ensures

pub returns-in-StartOver : goal.returns-in-StartOver
returns-in-StartOver c =
    let told = (goal.at.returns-in-StartOver c).In-StartOver in
    let e = c.start_over.ensures in
    started_outcome _ _ _ _ _ _ _ _ _ _ (starts-told told) (starts-in told).1 e.state e.values e.derivatives c.answer-in-StartOver.ensures
