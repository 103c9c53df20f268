-- What a climb carries on, a turn of it (the next rung, and the two slots that it fills), and what it leaves.
use Rattle.std.proofs.Common.{◌≡◌, sym, ap, ◌∙◌, List, true, false, ℕ, suc, ◌+◌, ◌-◌, ◌≤◌, ◌<◌, arith, length, set}
use Rattle.std.specs.Float.Ieee.{Float}
use Rattle.ladder_climb.proofs.Room.{room_facts}
use Rattle.recurrence.specs.Recurrence.{step}
use Rattle.recurrence.specs.ThreeTerm.{continued}
use Rattle.recurrence.proofs.ThreeTerm.{continued_next}
use Rattle.derivatives.specs.Derivatives.{derivative}
use Rattle.order.specs.declared.Sequence.{Sequence}
use Rattle.slots.specs.Slots.{filled}
use Rattle.slots.proofs.Filled.{filled_more}
use Rattle.ladder_climb.specs.Climb.{carried_value, carried_derivative, room_above, top_values, climbed_values, climbed_derivatives}
use Rattle.ladder_climb.specs.Climb.Open.{carried_value_is, carried_derivative_is, top_values_is, climbed_values_is, climbed_derivatives_is}

module _ (r : Sequence) (n : ℕ) (low high : Float) where
  abbrev step_from : ℕ → Float → Float → Float
  step_from k a b = step r.function r.below r.x r.f k a b

  abbrev value : ℕ → Float
  value = carried_value r n low high

  abbrev slope : ℕ → Float
  slope = carried_derivative r n low high

  -- term i of what is carried on is rung n − 1 + i
  term : (k i : ℕ) → k + 1 - n ≡ i → value k ≡ continued (λ j. step_from (n + 1 + j)) low high i
  term k i e = carried_value_is r n low high k ∙ ap (continued (λ j. step_from (n + 1 + j)) low high) e

  -- THE TWO VALUES, and then steps
  pub carried_low : 1 ≤ n → carried_value r n low high (n - 1) ≡ low
  unfolding continued
  carried_low h = term (n - 1) 0 (omega arith)

  pub carried_high : carried_value r n low high n ≡ high
  unfolding continued
  carried_high = term n 1 (omega arith)

  pub carried_step : (k : ℕ) → 1 ≤ n → n < k
      → carried_value r n low high k
      ≡ step r.function r.below r.x r.f k (carried_value r n low high (k - 2)) (carried_value r n low high (k - 1))
  carried_step k h b =
      let j = k - 1 - n in
      let e : n + 1 + j ≡ k = omega arith in
      term k (suc (suc j)) (omega arith)
      ∙ continued_next (λ i. step_from (n + 1 + i)) low high j
      ∙ rw (e, ← term (k - 2) j (omega arith), ← term (k - 1) (suc j) (omega arith))

  -- at the first step
  pub first_low : 1 ≤ n → low ≡ carried_value r n low high (n + 1 - 2)
  first_low h = let e : n + 1 - 2 ≡ n - 1 = omega arith in rw e (sym (carried_low h))

  pub first_high : high ≡ carried_value r n low high (n + 1 - 1)
  first_high = let e : n + 1 - 1 ≡ n = omega arith in rw e (sym carried_high)

  -- where a and b are rungs k − 2 and k − 1, and c is the step from them
  module _ (k : ℕ) (a b c : Float) (some : 1 ≤ n) (from : n < k) (ea : a ≡ value (k - 2)) (eb : b ≡ value (k - 1)) (ec : c ≡ step_from k a b) where
    pub next_low : b ≡ carried_value r n low high (k + 1 - 2)
    next_low = let e : k + 1 - 2 ≡ k - 1 = omega arith in rw e eb

    is_next : c ≡ value k
    is_next = ec ∙ rw (ea, eb) (sym (carried_step k some from))

    pub next_high : c ≡ carried_value r n low high (k + 1 - 1)
    next_high = let e : k + 1 - 1 ≡ k = omega arith in rw e is_next

    -- value k and derivative k − 1, stored
    pub next_value : (t l : List Float) → t ≡ filled (carried_value r n low high) (n + 1) (n + 1) (k - 1 - n) l
        → set t k c ≡ filled (carried_value r n low high) (n + 1) (n + 1) (k + 1 - 1 - n) l
    next_value t l et =
        let e : k ≡ n + 1 + (k - 1 - n) = omega arith in
        let m : k - 1 - n + 1 ≡ k + 1 - 1 - n = omega arith in
        rw et
        (ap (λ (z : Float). set (filled value (n + 1) (n + 1) (k - 1 - n) l) k z) is_next
        ∙ ap (λ (i : ℕ). set (filled value (n + 1) (n + 1) (k - 1 - n) l) i (value i)) e
        ∙ filled_more value (n + 1) (n + 1) (k - 1 - n) l
        ∙ ap (λ (i : ℕ). filled value (n + 1) (n + 1) i l) m)

    pub next_derivative : (d : Float) (t l : List Float) → d ≡ derivative r.function r.below r.x r.f (k - 1) b c
        → t ≡ filled (carried_derivative r n low high) n n (k - 1 - n) l → set t (k - 1) d ≡ filled (carried_derivative r n low high) n n (k + 1 - 1 - n) l
    next_derivative d t l ed et =
        let e : k - 1 ≡ n + (k - 1 - n) = omega arith in
        let m : k - 1 - n + 1 ≡ k + 1 - 1 - n = omega arith in
        let up : k - 1 + 1 ≡ k = omega arith in
        let dk : d ≡ slope (k - 1) = ed ∙ rw (carried_derivative_is r n low high (k - 1), up, eb, is_next) in
        rw (et, dk)
        (ap (λ (i : ℕ). set (filled slope n n (k - 1 - n) l) i (slope i)) e
        ∙ filled_more slope n n (k - 1 - n) l
        ∙ ap (λ (i : ℕ). filled slope n n i l) m)

  -- the climb with room, and without it
  module _ (top : ℕ) (l d : List Float) where
    pub climb_done : room_above n top (length l) (length d) ≡ true
        → (top_values r n low high top (length l) (length d) ≡ (carried_value r n low high (top - 1), carried_value r n low high top))
        × (climbed_values r n low high top l (length d) ≡ filled (carried_value r n low high) (n + 1) (n + 1) (top - n) l)
        × (climbed_derivatives r n low high top (length l) d ≡ filled (carried_derivative r n low high) n n (top - n) d)
    climb_done room = (
      rw (top_values_is r n low high top (length l) (length d), room),
      rw (climbed_values_is r n low high top l (length d), room),
      rw (climbed_derivatives_is r n low high top (length l) d, room),
    )

    pub climb_left : room_above n top (length l) (length d) ≡ false
        → ((low, high) ≡ top_values r n low high top (length l) (length d))
        × ((l ≡ climbed_values r n low high top l (length d)) × (d ≡ climbed_derivatives r n low high top (length l) d))
    climb_left room = (
      rw (top_values_is r n low high top (length l) (length d), room),
      (rw (climbed_values_is r n low high top l (length d), room), rw (climbed_derivatives_is r n low high top (length l) d, room)),
    )

-- none filled yet
pub none_filled : (value : ℕ → Float) (from at n : ℕ) (l : List Float) → filled value from at (n + 1 - 1 - n) l ≡ l
unfolding filled
none_filled value from at n l = let e : n + 1 - 1 - n ≡ 0 = omega arith in rw e

-- what a climb is, with room and without it, for `climb`
pub ruleset climbs = (room_facts, none_filled, first_low, first_high, next_low, next_high, next_value, next_derivative, top_values_is, climbed_values_is, climbed_derivatives_is)
