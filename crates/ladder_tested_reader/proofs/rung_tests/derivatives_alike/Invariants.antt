use Rattle.std.proofs.Common.{◌≡◌, ◌≤◌, true}
use Rattle.value_column.specs.OverSlots.{derivative_over}
use Rattle.ladder_tested_reader.specs.Tested.{all_alike}
use Rattle.ladder_tested_reader.proofs.rung_tests.derivatives_alike.Given as goal

abbrev pub invariant-loop-k : goal.invariant-loop-k
invariant-loop-k l =
    record {
      to : l.k ≤ l.fn.n;
      so_far : all_alike (derivative_over l.fn.sequence l.fn.values) l.fn.derivatives l.k ≡ true;
    }
