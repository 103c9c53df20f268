use Rattle.std.proofs.Common.{◌≡◌, ◌≤◌}
use Rattle.slots.specs.Slots.{filled}
use Rattle.value_column.specs.OverSlots.{derivative_over}
use Rattle.ladder_columns.proofs.fill_derivatives_over.Given as goal

abbrev pub invariant-loop-k : goal.invariant-loop-k
invariant-loop-k l = record {
  to : l.k ≤ l.n;
  slots : l.derivatives ≡ filled (derivative_over l.sequence l.values) 0 0 l.k l.initial.derivatives;
}
