-- `start_sums_small::vvsa_sum` meets its contract: the turns that are left lead to the sum.
use Rattle.std.proofs.Common.{ap, arith, Float}
use Rattle.floats.proofs.Loops.{goes, stops}
use Rattle.start_sums_small.specs.SmallSums.{vvsa_turn, vvsa_sum}
use Rattle.start_sums_small.proofs.vvsa_sum.Goals as goal

pub returns-then-abs : goal.returns-then-abs
unfolding vvsa_sum vvsa_turn
returns-then-abs c =
    rw (c.gamma2-gm.ensures, c.from-mf.ensures)
    (ap (λ (s : Float × Float × Float). s.2)
    (stops (vvsa_turn _ _ _) _ _ _ _ c.loop-m.invariant (omega arith) (rw (c.abs.ensures, c.gamma2-gm.ensures, c.from-mf.ensures) at c.if-abs.true)))

pub loop-m-preserved : goal.loop-m-preserved
unfolding vvsa_sum vvsa_turn
loop-m-preserved c =
    rw (c.gamma2-gm.ensures, c.from-mf.ensures)
    (goes (vvsa_turn _ _ _) _ _ _ _ c.loop-m.invariant (omega arith) (rw (c.abs.ensures, c.gamma2-gm.ensures, c.from-mf.ensures) at c.if-abs.false))
