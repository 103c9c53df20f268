-- A climb from a state, to its own n and to a higher one.
use Rattle.std.proofs.Common.{◌≡◌, ap, ◌∙◌, List, true, ℕ, ◌+◌, ◌-◌, ◌≤◌, length, Float}
use Rattle.slots.specs.Slots.{filled}
use Rattle.ladder_climb.specs.Climb.{room_above, top_values, climbed_values, climbed_derivatives}
use Rattle.ladder_climb.proofs.Climbs.{carried_low, carried_high, climb_done}
use Rattle.ladder_states.specs.declared.Ladder.{Ladder}
use Rattle.ladder_states.specs.States.{state_of, sequence_in}
use Rattle.ladder.specs.Ladder.{value_from, derivative_from, climbed_to}
use Rattle.ladder.specs.Ladder.Open.{climbed_to_is}

module _ (s : Ladder) where
  -- a state that goes on to its own n is as it was
  pub climbed_here : 1 ≤ s.held.n → climbed_to s s.held.n ≡ s
  climbed_here h =
      climbed_to_is s s.held.n
      ∙ rw (carried_low (sequence_in s) s.held.n s.values.low s.values.high h, carried_high (sequence_in s) s.held.n s.values.low s.values.high)

  -- there is room up to `top`
  module _ (top : ℕ) (l d : List Float) (room : room_above s.held.n top (length l) (length d) ≡ true) where
    pub climbed_state : (low high : Float) → (low, high) ≡ top_values (sequence_in s) s.held.n s.values.low s.values.high top (length l) (length d)
        → state_of (sequence_in s) top low high ≡ climbed_to s top
    climbed_state low high e =
        rw (climbed_to_is s top)
        (ap (λ (p : Float × Float). state_of (sequence_in s) top p.0 p.1) (e ∙ (climb_done (sequence_in s) s.held.n s.values.low s.values.high top l d room).0))

    pub climbed_values_law : (l1 : List Float) → l1 ≡ climbed_values (sequence_in s) s.held.n s.values.low s.values.high top l (length d)
        → l1 ≡ filled (value_from s) (s.held.n + 1) (s.held.n + 1) (top - s.held.n) l
    climbed_values_law l1 e = e ∙ (climb_done (sequence_in s) s.held.n s.values.low s.values.high top l d room).1

    pub climbed_derivatives_law : (d1 : List Float) → d1 ≡ climbed_derivatives (sequence_in s) s.held.n s.values.low s.values.high top (length l) d
        → d1 ≡ filled (derivative_from s) s.held.n s.held.n (top - s.held.n) d
    climbed_derivatives_law d1 e = e ∙ (climb_done (sequence_in s) s.held.n s.values.low s.values.high top l d room).2
