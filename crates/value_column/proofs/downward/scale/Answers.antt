-- `value_column::downward::scale` meets its contract: the slots before this one are scaled, and this one is as at entry.
use Rattle.std.proofs.Common.{refl}
use Rattle.slots.specs.Slots.{filled}
use Rattle.value_column.proofs.Turns.{scaled_slot}
use Rattle.value_column.proofs.downward.scale.Goals as goal

pub loop-value-init : goal.loop-value-init
unfolding filled
loop-value-init c = refl

pub loop-value-preserved : goal.loop-value-preserved
loop-value-preserved c =
    let l = c.loop-value in scaled_slot c.args.s l.value-index l.value-items c.args.t.now l.invariant
