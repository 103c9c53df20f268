-- `ladder_tested_reader::rung_tests::derivatives_alike` meets its contract: at rung k slots 0 to k − 1 are alike with the formula over the values.
use Rattle.std.proofs.Common.{arith}
use Rattle.slots.specs.Slots.{slot}
use Rattle.value_column.specs.OverSlots.{derivative_over}
use Rattle.ladder_tested_reader.proofs.Alike.{none_yet, turned, wrong}
use Rattle.ladder_tested_reader.proofs.rung_tests.derivatives_alike.Goals as goal

pub returns-then-not-alike : goal.returns-then-not-alike
unfolding slot derivative_over
returns-then-not-alike c =
    let g = c.args in
    wrong (derivative_over g.sequence g.values.now) g.derivatives.now c.loop-k.k g.n _ _ (omega arith) c.if-not-alike.true c.alike.ensures c.derivative.ensures

pub loop-k-preserved : goal.loop-k-preserved
unfolding slot derivative_over
loop-k-preserved c =
    let g = c.args in
    record {
      to = omega arith;
      so_far =
          turned (derivative_over g.sequence g.values.now) g.derivatives.now c.loop-k.k _ _ c.loop-k.invariant.so_far c.if-not-alike.false c.alike.ensures
          c.derivative.ensures;
    }

pub loop-k-init : goal.loop-k-init
loop-k-init c = record { to = omega arith; so_far = none_yet (derivative_over c.args.sequence c.args.values.now) c.args.derivatives.now }
