use Rattle.std.proofs.Common.{◌≡◌, ◌+◌, ◌-◌, ◌≤◌}
use Rattle.rungs.specs.Rungs.{rung}
use Rattle.slots.specs.Slots.{filled}
use Rattle.value_column.proofs.upward.forward.Given as goal

abbrev pub invariant-loop-k : goal.invariant-loop-k
invariant-loop-k l =
    let value = rung l.sequence in
    record {
      from : 3 ≤ l.k;
      to : l.k ≤ l.fn.rungs.n + 1;
      low : l.two.low ≡ value (l.k - 2);
      high : l.two.high ≡ value (l.k - 1);
      slots : l.t ≡ filled value 0 0 l.k l.fn.t;
    }
