use Rattle.std.proofs.Common.{◌≡◌, ◌-◌, false}
use Rattle.floats.specs.Loops.{count_up}
use Rattle.start_sums_small.specs.SmallSums.{dvsa_turn, dvsa_sum}
use Rattle.start_sums_small.proofs.dvsa_sum.Given as goal

abbrev pub invariant-loop-m : goal.invariant-loop-m
invariant-loop-m l =
    count_up (dvsa_turn l.x l.va) (251 - l.m) l.m (false, (l.r, l.pd)) ≡ dvsa_sum l.x l.va l.g0

abbrev pub decreases-loop-m : goal.decreases-loop-m
decreases-loop-m l = 251 - l.m
