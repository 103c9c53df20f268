use Rattle.std.proofs.Common.{◌≡◌}
use Rattle.slots.specs.Slots.{filled}
use Rattle.value_column.specs.OverSlots.{scaled_by}
use Rattle.value_column.proofs.downward.scale.Given as goal

abbrev pub invariant-loop-value : goal.invariant-loop-value
invariant-loop-value l =
    l.value-items ≡ filled (scaled_by l.s l.initial.value-items) 0 0 l.value-index l.initial.value-items
