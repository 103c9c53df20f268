use Rattle.std.proofs.Common.{◌≡◌, ◌+◌, ◌-◌, ◌≤◌, ◌<◌, length}
use Rattle.slots.specs.Slots.{filled}
use Rattle.ladder_climb.specs.Climb.{carried_value, carried_derivative}
use Rattle.ladder_climb.proofs.climb.Given as goal

abbrev pub invariant-loop-k : goal.invariant-loop-k
invariant-loop-k l =
    let held = l.initial.two in
    let value = carried_value l.sequence l.n held.low held.high in
    let slope = carried_derivative l.sequence l.n held.low held.high in
    record {
      some : 1 ≤ l.n;
      room : l.top < length l.initial.values;
      derivatives_room : l.top ≤ length l.initial.derivatives;
      from : l.n < l.k;
      to : l.k ≤ l.top + 1;
      low : l.two.low ≡ value (l.k - 2);
      high : l.two.high ≡ value (l.k - 1);
      values : l.values ≡ filled value (l.n + 1) (l.n + 1) (l.k - 1 - l.n) l.initial.values;
      derivatives : l.derivatives ≡ filled slope l.n l.n (l.k - 1 - l.n) l.initial.derivatives;
    }
