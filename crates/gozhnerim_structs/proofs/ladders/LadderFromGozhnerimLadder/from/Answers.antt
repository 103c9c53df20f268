-- The conversion to a ladder meets its contract: a case for each function, and one for any other number.
use Rattle.std.proofs.Common.{◌≡◌}
use Rattle.std.proofs.Math.Option.{none}
use Rattle.ladder_states.specs.States.Open.{empty_state_is}
use Rattle.gozhnerim_structs.specs.Ladders.{function_of, ladder_by, ladder_in}
use Rattle.gozhnerim_structs.proofs.Laws.{by_number, by_no_number}
use Rattle.gozhnerim_structs.proofs.ladders.LadderFromGozhnerimLadder.from.Goals as goal

pub returns-in_default : goal.returns-in_default
unfolding ladder_by ladder_in
returns-in_default c =
    let e = c.in_default.ensures in
    let unknown : function_of c.args.state.function ≡ none = by_no_number c.args.state.function e.1 e.2 in
    rw (unknown, empty_state_is) (rw empty_state_is at c.empty.ensures.state)

pub returns : goal.returns
unfolding ladder_by ladder_in
returns c = rw (by_number _ _ c.in-Ok.ensures) (rw c.counted-n.ensures at c.new.ensures.state)
