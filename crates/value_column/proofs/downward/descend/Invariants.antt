use Rattle.std.proofs.Common.{◌≡◌, ◌+◌, ◌-◌, ◌≤◌, length, min}
use Rattle.rungs.specs.Rungs.{descent}
use Rattle.slots.specs.Slots.{filled}
use Rattle.value_column.proofs.downward.descend.Given as goal

abbrev pub invariant-loop-k : goal.invariant-loop-k
invariant-loop-k l =
    let value = descent l.sequence l.top l.initial.two.low l.initial.two.high in
    record {
      above : l.stored ≤ l.k;
      below : l.k ≤ l.top;
      low : l.two.low ≡ value l.k;
      high : l.two.high ≡ value (l.k + 1);
    }

abbrev pub invariant-loop-k-2 : goal.invariant-loop-k-2
invariant-loop-k-2 l =
    let value = descent l.sequence l.stored l.initial.two.low l.initial.two.high in
    record {
      below : l.k ≤ l.stored;
      low : l.two.low ≡ value l.k;
      high : l.two.high ≡ value (l.k + 1);
      slots : l.t ≡ filled value l.k l.k (min l.stored (length l.initial.t) - l.k) l.initial.t;
    }
