-- What is worked out from the slots of a list.
use Rattle.std.specs.Prelude.{List, ℕ, ◌+◌, Float}
use Rattle.floats.specs.Operations.{◌⊗◌}
use Rattle.slots.specs.Slots.{slot}
use Rattle.order.specs.declared.Sequence.{Sequence}
use Rattle.derivatives.specs.Derivatives.{derivative}

-- the values of a list, each times s
unfoldable pub scaled_by : Float → List Float → ℕ → Float
scaled_by s l k = slot l k ⊗ s

-- the derivatives over the values that a list holds
unfoldable pub derivative_over : Sequence → List Float → ℕ → Float
derivative_over r l k = derivative r.function r.below r.x r.f k (slot l k) (slot l (k + 1))
