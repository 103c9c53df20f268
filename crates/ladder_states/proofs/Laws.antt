-- The state that holds nothing.
use Rattle.std.proofs.Common.{◌≡◌, ap, true}
use Rattle.ladder_machine.specs.Held.{counts_empty}
use Rattle.ladder_machine.proofs.Laws.{no_rung_held}
use Rattle.ladder_states.specs.declared.Ladder.{Ladder}
use Rattle.ladder_states.specs.States.{empty_state, held_in}
use Rattle.ladder_states.specs.States.Open.{empty_state_is}

-- it counts as empty
pub nothing_held : counts_empty (held_in empty_state) ≡ true
nothing_held = no_rung_held (held_in empty_state) (ap (λ (s : Ladder). s.held.n) empty_state_is)
