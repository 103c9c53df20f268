-- `exponential::exp_sum` meets its contract: one turn of the countdown, and its end.
use Rattle.std.proofs.Common.{sym}
use Rattle.floats.proofs.Countdown.{turns, ends}
use Rattle.exponential.specs.Exponential.Open.{exp_sum_is}
use Rattle.exponential.proofs.exp_sum.Goals as goal

pub loop-j-init : goal.loop-j-init
loop-j-init c = sym (exp_sum_is c.args.r c.args.last)

pub loop-j-preserved : goal.loop-j-preserved
loop-j-preserved c = rw c.from.ensures (turns _ _ _ _ _ c.loop-j.invariant c.loop-j-test.true)

pub returns : goal.returns
returns c = ends _ _ _ _ _ c.loop-j.invariant c.loop-j-test.false
