-- What each shut definition is, for the proofs of this crate and those of `ladder_lists`, which states demand 3.
use Rattle.std.specs.Prelude.{◌≡◌, List, cond, ℕ, ◌+◌, ◌-◌, length, Float}
use Rattle.std.proofs.Math.Path.{refl}
use Rattle.recurrence.specs.Recurrence.{step}
use Rattle.recurrence.specs.ThreeTerm.{continued}
use Rattle.derivatives.specs.Derivatives.{derivative}
use Rattle.order.specs.declared.Sequence.{Sequence}
use Rattle.slots.specs.Slots.{filled}
use Rattle.ladder_climb.specs.Climb.{carried_value, carried_derivative, room_above, top_values, climbed_values}
use Rattle.ladder_climb.specs.Climb.{climbed_derivatives}

module _ (r : Sequence) (n : ℕ) (low high : Float) where
  pub carried_value_is : (k : ℕ)
      → carried_value r n low high k
      ≡ continued (λ i. step r.function r.below r.x r.f (n + 1 + i)) low high (k + 1 - n)
  unfolding carried_value
  carried_value_is k = refl

  pub carried_derivative_is : (k : ℕ)
      → carried_derivative r n low high k
      ≡ derivative r.function r.below r.x r.f k (carried_value r n low high k)
      (carried_value r n low high (k + 1))
  unfolding carried_derivative
  carried_derivative_is k = refl

  pub top_values_is : (top values derivatives : ℕ)
      → top_values r n low high top values derivatives
      ≡ cond (room_above n top values derivatives)
      (carried_value r n low high (top - 1), carried_value r n low high top)
      (low, high)
  unfolding top_values
  top_values_is top values derivatives = refl

  pub climbed_values_is : (top : ℕ) (l : List Float) (derivatives : ℕ)
      → climbed_values r n low high top l derivatives
      ≡ cond (room_above n top (length l) derivatives) (filled (carried_value r n low high) (n + 1) (n + 1) (top - n) l) l
  unfolding climbed_values
  climbed_values_is top l derivatives = refl

  pub climbed_derivatives_is : (top values : ℕ) (l : List Float)
      → climbed_derivatives r n low high top values l
      ≡ cond (room_above n top values (length l)) (filled (carried_derivative r n low high) n n (top - n) l) l
  unfolding climbed_derivatives
  climbed_derivatives_is top values l = refl
