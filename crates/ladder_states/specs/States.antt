-- The state of a ladder (01, "The ladder").
use Rattle.std.specs.Prelude.{ℕ, false, Float}
use Rattle.floats.specs.Operations.{f0}
use Rattle.floats.specs.declared.Function.TheVariants.{D}
use Rattle.order.specs.declared.Sequence.{Sequence}
use Rattle.ladder_machine.specs.declared.Held.{Held}
use Rattle.ladder_states.specs.declared.Ladder.{Ladder}
pub mod Open

-- a state by its rungs: which they are, n, and the values of rungs n − 1 and n. Every state is made here.
abbrev pub state_of : Sequence → ℕ → Float → Float → Ladder
state_of r n low high =
    record { held = record { sequence = r; n = n }; values = record { low = low; high = high } }

-- which rungs a state holds
abbrev pub sequence_in : Ladder → Sequence
sequence_in s = s.held.sequence

-- a state that holds nothing: every field is 0
pub empty_state : Ladder
empty_state = state_of (record { function = D; below = false; x = f0; f = f0 }) 0 f0 f0

-- a state, its two values left out
abbrev pub held_in : Ladder → Held
held_in s = s.held
