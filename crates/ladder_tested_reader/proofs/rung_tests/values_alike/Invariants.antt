use Rattle.std.proofs.Common.{◌≡◌, ◌+◌, ◌≤◌, true}
use Rattle.ladder_tested_reader.specs.Tested.{value_over, all_alike}
use Rattle.ladder_tested_reader.proofs.rung_tests.values_alike.Given as goal

abbrev pub invariant-loop-k : goal.invariant-loop-k
invariant-loop-k l =
    record {
      from : 3 ≤ l.k;
      to : l.k ≤ l.fn.n + 1;
      so_far : all_alike (value_over l.fn.sequence l.fn.values) l.fn.values l.k ≡ true;
    }
