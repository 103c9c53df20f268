-- `gamma_ratio::log1pmx` meets its contract: the turns that are left lead to the sum.
use Rattle.std.proofs.Common.{refl, ap, arith, Float}
use Rattle.floats.proofs.Loops.{goes, stops, done}
use Rattle.gamma_ratio.specs.GammaRatio.{log1pmx_turn, log1pmx_sum}
use Rattle.gamma_ratio.specs.GammaRatio.Open.{log1pmx_is}
use Rattle.gamma_ratio.proofs.log1pmx.Goals as goal

abbrev second : Float × Float → Float
second s = s.1

pub loop-i-init : goal.loop-i-init
unfolding log1pmx_turn log1pmx_sum
loop-i-init c = refl

pub returns-then-abs : goal.returns-then-abs
unfolding log1pmx_turn log1pmx_sum
returns-then-abs c =
    rw (log1pmx_is, c.from.ensures)
    (ap second
    (stops (log1pmx_turn _) _ _ _ _ c.loop-i.invariant (omega arith)
    (rw (c.abs.ensures, c.abs-in-loop-i.ensures, c.from.ensures) at c.if-abs.true)))

pub loop-i-preserved : goal.loop-i-preserved
unfolding log1pmx_turn log1pmx_sum
loop-i-preserved c =
    rw c.from.ensures
    (goes (log1pmx_turn _) _ _ _ _ c.loop-i.invariant (omega arith)
    (rw (c.abs.ensures, c.abs-in-loop-i.ensures, c.from.ensures) at c.if-abs.false))

pub returns : goal.returns
unfolding log1pmx_turn log1pmx_sum
returns c = rw log1pmx_is (ap second (done (log1pmx_turn _) _ _ _ _ c.loop-i.invariant (omega arith)))
