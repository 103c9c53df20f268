-- `stored_answers::expansion_answer::constant` meets its contract: the array is the list of the definition.
use Rattle.std.proofs.Common.{refl}
use Rattle.std.specs.Float.Ieee.{neg, of_bits}
use Rattle.stored_answers.specs.Expansion.{constants, constant}
use Rattle.stored_answers.proofs.expansion_answer.constant.Goals as goal

pub returns : goal.returns
unfolding constants constant neg of_bits
returns c = refl
