-- `start_sums_small::dvsa_sum` meets its contract: the turns that are left lead to the sum.
use Rattle.std.proofs.Common.{ap, arith, Float}
use Rattle.floats.proofs.Loops.{goes, stops}
use Rattle.start_sums_small.specs.SmallSums.{dvsa_turn, dvsa_sum}
use Rattle.start_sums_small.proofs.dvsa_sum.Goals as goal

pub returns-then-abs : goal.returns-then-abs
unfolding dvsa_sum dvsa_turn
returns-then-abs c =
    rw (c.gamma2-gm.ensures, c.from-mf.ensures)
    (ap (λ (s : Float × Float). s.1)
    (stops (dvsa_turn _ _) _ _ _ _ c.loop-m.invariant (omega arith)
    (rw (c.abs.ensures, c.abs-in-loop-m.ensures, c.gamma2-gm.ensures, c.from-mf.ensures) at c.if-abs.true)))

pub loop-m-preserved : goal.loop-m-preserved
unfolding dvsa_sum dvsa_turn
loop-m-preserved c =
    rw (c.gamma2-gm.ensures, c.from-mf.ensures)
    (goes (dvsa_turn _ _) _ _ _ _ c.loop-m.invariant (omega arith)
    (rw (c.abs.ensures, c.abs-in-loop-m.ensures, c.gamma2-gm.ensures, c.from-mf.ensures) at c.if-abs.false))
