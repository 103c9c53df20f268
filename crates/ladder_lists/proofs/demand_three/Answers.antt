-- `ladder_lists::demand_three` meets its contract: the theorem.
use Rattle.ladder_lists.proofs.Lists.{demand3}
use Rattle.ladder_lists.proofs.demand_three.Goals as goal

pub returns : goal.returns
returns c = demand3
