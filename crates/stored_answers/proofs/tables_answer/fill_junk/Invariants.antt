use Rattle.std.proofs.Common.{◌≡◌}
use Rattle.slots.specs.Slots.{filled}
use Rattle.stored_answers.specs.Tables.{junk}
use Rattle.stored_answers.proofs.tables_answer.fill_junk.Given as goal

abbrev pub invariant-loop-k : goal.invariant-loop-k
invariant-loop-k l = l.t ≡ filled junk 0 0 l.k l.initial.t
