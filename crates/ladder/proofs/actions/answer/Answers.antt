-- `ladder::actions::answer` meets its contract: the pair is the state's.
use Rattle.answer.specs.Answer.{refusal_of}
use Rattle.ladder.specs.Ladder.{written_of, pair_in, given_by, answered}
use Rattle.ladder.specs.Ladder.Open.{pair_from_is}
use Rattle.ladder.proofs.actions.answer.Goals as goal

pub returns : goal.returns
unfolding given_by answered refusal_of pair_in written_of
returns c = rw (pair_from_is _, c.derivative.ensures)
