-- `ladder::request` meets its contract: what the judgement says is what the machine says of the state's fields.
use Rattle.std.proofs.Common.{refl, ◌∙◌}
use Rattle.answer.specs.Answer.{refusal_of}
use Rattle.ladder_machine.specs.Held.{verdict_of}
use Rattle.ladder_machine.specs.Machine.{refused_by, effect}
use Rattle.ladder_machine.proofs.Laws.{written_refuses}
use Rattle.ladder.specs.Ladder.{written_of, pair_in, given_by, pair_then, given_on}
use Rattle.ladder.proofs.Outcomes.{refused_outcome, judged}
use Rattle.ladder.proofs.request.Goals as goal

pub returns-in-Ok : goal.returns-in-Ok
returns-in-Ok c = c.act.ensures ∙ judged _ _ _ _ _ c.in-Ok.ensures

pub returns-in-Err : goal.returns-in-Err
unfolding verdict_of given_by given_on refusal_of pair_in written_of refused_by effect pair_then
returns-in-Err c =
    let g = c.args in
    let e = c.in-Err.ensures in
    refused_outcome g.state _ g.values.now g.derivatives.now _ _ _ refl (rw (written_refuses _)) ∙ judged _ _ _ _ _ e
