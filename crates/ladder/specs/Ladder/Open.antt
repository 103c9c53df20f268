-- What each shut definition is, for the proofs about the ladder: those of this crate, and those of `ladder_lists`, which
-- states demand 3 of these definitions.
use Rattle.std.specs.Prelude.{◌≡◌, List, ℕ, ◌+◌, ◌-◌, length, Float}
use Rattle.std.proofs.Math.Path.{refl}
use Rattle.derivatives.specs.Derivatives.{derivative}
use Rattle.slots.specs.Slots.{filled}
use Rattle.tables.specs.Tables.{sequence_of, value_of, derivative_of}
use Rattle.ladder_machine.specs.declared.Request.{Request}
use Rattle.ladder_machine.specs.Machine.{asked, Verdict, stays, goes_on, starts_at, effect, verdict}
use Rattle.ladder_machine.specs.Held.{machine_of}
use Rattle.ladder_states.specs.declared.Ladder.{Ladder}
use Rattle.ladder_states.specs.States.{state_of, sequence_in, held_in}
use Rattle.ladder.specs.Ladder.{state_for, value_from, derivative_from, climbed_to, pair_from, given_on, outcome}
use Rattle.ladder.specs.Ladder.{state_then, values_then, derivatives_then, outcome_by, requested}

pub state_for_is : (q : Request) (n : ℕ)
    → state_for q n
    ≡ state_of (sequence_of q.function q.v q.x) n (value_of q.function q.v q.x (n - 1))
    (value_of q.function q.v q.x n)
unfolding state_for
state_for_is q n = refl

module _ (s : Ladder) where
  pub climbed_to_is : (n : ℕ) → climbed_to s n ≡ state_of (sequence_in s) n (value_from s (n - 1)) (value_from s n)
  unfolding climbed_to
  climbed_to_is n = refl

  pub pair_from_is : pair_from s
      ≡ (let r = sequence_in s in let v = s.values in
      (v.low, derivative r.function r.below r.x r.f (s.held.n - 1) v.low v.high))
  unfolding pair_from
  pair_from_is = refl

module _ (s : Ladder) (q : Request) where
  pub state_stays : state_then stays s q ≡ s
  unfolding state_then
  state_stays = refl

  pub state_goes_on : (m n : ℕ) → state_then (goes_on m n) s q ≡ climbed_to s n
  unfolding state_then
  state_goes_on m n = refl

  pub state_starts : (n : ℕ) → state_then (starts_at n) s q ≡ state_for q n
  unfolding state_then
  state_starts n = refl

module _ (s : Ladder) (q : Request) (l : List Float) where
  pub values_stay : values_then stays s q l ≡ l
  unfolding values_then
  values_stay = refl

  pub values_go_on : (m n : ℕ) → values_then (goes_on m n) s q l ≡ filled (value_from s) (m + 1) (m + 1) (n - m) l
  unfolding values_then
  values_go_on m n = refl

  pub values_start : (n : ℕ)
      → values_then (starts_at n) s q l ≡ filled (value_of q.function q.v q.x) 0 0 (n + 1) l
  unfolding values_then
  values_start n = refl

  pub derivatives_stay : derivatives_then stays s q l ≡ l
  unfolding derivatives_then
  derivatives_stay = refl

  pub derivatives_go_on : (m n : ℕ) → derivatives_then (goes_on m n) s q l ≡ filled (derivative_from s) m m (n - m) l
  unfolding derivatives_then
  derivatives_go_on m n = refl

  pub derivatives_start : (n : ℕ)
      → derivatives_then (starts_at n) s q l ≡ filled (derivative_of q.function q.v q.x) 0 0 n l
  unfolding derivatives_then
  derivatives_start n = refl

module _ (s : Ladder) (q : Request) (values derivatives : List Float) where
  pub outcome_by_law : (w : Verdict)
      → outcome_by w s q values derivatives
      ≡ outcome (given_on w (state_then (effect w) s q)) (values_then (effect w) s q values)
      (derivatives_then (effect w) s q derivatives)
  unfolding outcome_by
  outcome_by_law w = refl

  pub requested_is : requested s q values derivatives
      ≡ outcome_by (verdict (machine_of (held_in s)) (asked q (length values) (length derivatives))) s q values derivatives
  unfolding requested
  requested_is = refl
