-- `trigonometric::trig_sum` meets its contract: one turn of the countdown, and its end.
use Rattle.std.proofs.Common.{sym}
use Rattle.floats.proofs.Countdown.{turns, ends}
use Rattle.trigonometric.specs.Trigonometric.Open.{trig_sum_is}
use Rattle.trigonometric.proofs.trig_sum.Goals as goal

pub loop-j-init : goal.loop-j-init
loop-j-init c = sym (trig_sum_is c.args.less c.args.z)

pub loop-j-preserved : goal.loop-j-preserved
loop-j-preserved c = rw c.from.ensures (turns _ 1 _ _ _ c.loop-j.invariant c.loop-j-test.true)

pub returns : goal.returns
returns c = ends _ 1 _ _ _ c.loop-j.invariant c.loop-j-test.false
