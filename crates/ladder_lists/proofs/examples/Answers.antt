-- `ladder_lists::examples` meets its contract: the theorem.
use Rattle.ladder_lists.proofs.Values.{examples_hold}
use Rattle.ladder_lists.proofs.examples.Goals as goal

pub returns : goal.returns
returns c = examples_hold
