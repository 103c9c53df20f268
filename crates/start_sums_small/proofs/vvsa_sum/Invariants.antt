use Rattle.std.proofs.Common.{◌≡◌, ◌-◌, false}
use Rattle.floats.specs.Loops.{count_up}
use Rattle.start_sums_small.specs.SmallSums.{vvsa_turn, vvsa_sum}
use Rattle.start_sums_small.proofs.vvsa_sum.Given as goal

abbrev pub invariant-loop-m : goal.invariant-loop-m
invariant-loop-m l =
    count_up (vvsa_turn l.x l.va l.sv) (251 - l.m) l.m (false, (l.r, l.fac, l.pv)) ≡ vvsa_sum l.x l.va l.sv l.pv0

abbrev pub decreases-loop-m : goal.decreases-loop-m
decreases-loop-m l = 251 - l.m
