-- `ladder::actions::start_over` meets its contract: the split's rungs go to the fill, and the two top values are read back.
use Rattle.std.proofs.Common.{◌≤◌, ◌<◌, arith, rules, T, length, ◌∙◌}
use Rattle.std.specs.Float.{binary64}
use Rattle.std.specs.Float.Ieee.{fits}
use Rattle.slots.specs.Slots.{slot}
use Rattle.ladder.proofs.Starts.{order_room, started_values, started_derivatives, started_state}
use Rattle.ladder.proofs.actions.start_over.Goals as goal
use Rattle.ladder.proofs.actions.start_over.Goals.{After-rungs-rungs}

order-fits : (c : After-rungs-rungs) → T (fits binary64 c.args.request.v)
order-fits c = search rules

-- n, as the rungs have it, and the tables
room : (c : After-rungs-rungs)
    → let g = c.args in
    let n = c.rungs-rungs.result.n in
    (1 ≤ n) × (n ≤ 1000) × (n < length g.values.now) × (n ≤ length g.derivatives.now)
room c =
    let g = c.args in
    rw (c.rungs-rungs.ensures.top, c.requires.top) (order_room g.request (length g.values.now) (length g.derivatives.now) (order-fits c) c.requires.accepted)

pub overflow_sub-two : goal.overflow_sub-two
overflow_sub-two c = omega (arith, room (goal.at.overflow_sub-two c).After-rungs-rungs)

pub bounds-values-top : goal.bounds-values-top
bounds-values-top c = rw c.fill_columns.auto.values (omega (arith, room (goal.at.bounds-values-top c).After-rungs-rungs))

pub bounds-values-top-2 : goal.bounds-values-top-2
bounds-values-top-2 c = rw c.fill_columns.auto.values (omega (arith, room (goal.at.bounds-values-top-2 c).After-rungs-rungs))

pub returns : goal.returns
unfolding slot
returns c =
    let g = c.args in
    let q = g.request in
    let fit = order-fits (goal.at.returns c).After-rungs-rungs in
    let o = c.split.ensures in
    let w = c.rungs-rungs.ensures in
    let r = rw (o.side, o.fraction) at w.sequence in
    let u = w.shifted ∙ o.shifted in
    let ok = c.requires.accepted in
    let n = w.top ∙ c.requires.top in
    let e = c.fill_columns.ensures in
    record {
      state = c.new.ensures.state ∙ started_state q g.values.now g.derivatives.now fit ok _ _ _ _ _ r u n e.values e.derivatives;
      values = started_values q g.values.now g.derivatives.now fit ok _ _ _ _ _ r u n e.values e.derivatives;
      derivatives = started_derivatives q g.values.now g.derivatives.now fit ok _ _ _ _ _ r u n e.values e.derivatives;
    }
