use Rattle.std.proofs.Common.{◌≡◌, Float, ◌+◌, ◌-◌, false}
use Rattle.floats.specs.Loops.{count_up}
use Rattle.start_sums_large.specs.StartSums.{expansion_turn, Computes, expansion_sum}
use Rattle.start_sums_large.proofs.expansion_sum.Given as goal

abbrev pub invariant-loop-k : goal.invariant-loop-k
invariant-loop-k g l =
    (by : Float → Float → Float) → Computes (goal.F-post g l.next) by
    → count_up (expansion_turn by) (l.count + 1 - l.k) l.k (false, (l.r, l.sum)) ≡ expansion_sum by l.count
