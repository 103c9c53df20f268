use Rattle.std.proofs.Common.{◌≡◌, false, ◌-◌}
use Rattle.floats.specs.Loops.{count_up}
use Rattle.gamma_ratio.specs.GammaRatio.{log1pmx_turn, log1pmx_sum}
use Rattle.gamma_ratio.proofs.log1pmx.Given as goal

abbrev pub invariant-loop-i : goal.invariant-loop-i
invariant-loop-i l = count_up (log1pmx_turn l.w) (500 - l.i) l.i (false, (l.c, l.sum)) ≡ log1pmx_sum l.w
