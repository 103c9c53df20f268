-- `ladder_columns::fill_derivatives_over` meets its contract: the slots before this one are filled.
use Rattle.std.proofs.Common.{refl, arith}
use Rattle.slots.specs.Slots.{filled}
use Rattle.ladder_columns.proofs.Columns.{derived_over}
use Rattle.ladder_columns.proofs.fill_derivatives_over.Goals as goal

pub loop-k-init : goal.loop-k-init
unfolding filled
loop-k-init c = record { to = omega arith; slots = refl }

pub loop-k-preserved : goal.loop-k-preserved
loop-k-preserved c =
    let g = c.args in
    let l = c.loop-k in
    record {
      to = omega arith;
      slots = derived_over g.sequence l.k c.derivative.result g.values.now l.derivatives g.derivatives.now l.invariant.slots c.derivative.ensures;
    }
