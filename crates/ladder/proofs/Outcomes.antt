-- What comes of each judgement: what it says of the state and the tables, and what the action gives and leaves.
use Rattle.std.proofs.Common.{◌≡◌, refl, sym, ap, ◌∙◌, subst, List, ℕ, ◌+◌, ◌-◌, ◌≤◌, ◌<◌, arith, T, length, Float}
use Rattle.std.specs.Float.{binary64}
use Rattle.std.specs.Float.Ieee.{fits}
use Rattle.std.proofs.Math.Nat.{sub_self}
use Rattle.order.specs.Order.{top_rung}
use Rattle.slots.specs.Slots.{filled}
use Rattle.slots.proofs.Filled.{length_filled}
use Rattle.tables.specs.Tables.{value_of, derivative_of}
use Rattle.ladder_machine.specs.declared.Request.{Request}
use Rattle.ladder_machine.specs.Machine.{asked, refusal, Verdict, refuses, repeats, climbs, starts_over, refused_by, Effect, stays, goes_on, starts_at, effect, verdict}
use Rattle.ladder_machine.specs.Held.{machine_of}
use Rattle.ladder_machine.proofs.Laws.{not_empty, Means, verdict_means, climb_parts, written_repeats, written_climbs, written_starts_over}
use Rattle.ladder_states.specs.declared.Ladder.{Ladder}
use Rattle.ladder_states.specs.States.{held_in}
use Rattle.ladder.specs.Ladder.{state_for, value_from, derivative_from, climbed_to, Given, pair_then, given_on, answered, outcome, values_then, derivatives_then, outcome_by, requested}
use Rattle.ladder.specs.Ladder.Open.{state_for_is, climbed_to_is, state_stays, state_goes_on, state_starts, values_stay, values_go_on, values_start, derivatives_stay, derivatives_go_on, derivatives_start, outcome_by_law, requested_is}
use Rattle.ladder.proofs.Climbs.{climbed_here}
use Rattle.ladder.proofs.Starts.{order_room}

module _ (s : Ladder) (q : Request) (l d : List Float) (w : Verdict) where
  -- w is what the machine says to the request
  module _ (said : w ≡ verdict (machine_of (held_in s)) (asked q (length l) (length d))) where
    means : (w' : Verdict) → w ≡ w' → Means (held_in s) q (length l) (length d) w'
    means w' e = subst (Means (held_in s) q (length l) (length d)) (sym said ∙ e) (verdict_means (held_in s) q (length l) (length d))

    pub repeat_held : (n : ℕ) → w ≡ repeats n → (1 ≤ s.held.n) × (s.held.n ≡ n)
    repeat_held n e = let p = means (repeats n) e in ((not_empty (held_in s) p.2).0, p.4)

    module _ (fit : T (fits binary64 q.v)) where
      pub climb_room : (m n : ℕ) → w ≡ climbs m n → (1 ≤ s.held.n) × (s.held.n < n) × (n ≤ 1000) × (n < length l) × (n ≤ length d) × (s.held.n ≡ m)
      climb_room m n e =
          let p = means (climbs m n) e in
          let r = order_room q (length l) (length d) fit p.0 in
          let c = climb_parts s.held.sequence.function s.held.sequence.below s.held.sequence.x s.held.sequence.f s.held.n (top_rung q.v) p.5 in
          (omega (arith, c.1), omega (arith, c.0, p.1), omega (arith, r.1, p.1), omega (arith, r.2, p.1), omega (arith, r.3, p.1), p.4)

      pub start_room : (n : ℕ) → w ≡ starts_over n → (refusal q (length l) (length d) ≡ 0) × (top_rung q.v ≡ n) × (1 ≤ n) × (n ≤ 1000)
      start_room n e =
          let p = means (starts_over n) e in
          let r = order_room q (length l) (length d) fit p.0 in
          (p.0, p.1, omega (arith, r.0, p.1), omega (arith, r.1, p.1))

    pub judged : outcome_by w s q l d ≡ requested s q l d
    judged = rw (requested_is s q l d, said)

  -- what is given, and what is left
  pub refused_outcome : (number : ℕ) (g : Given) → w ≡ refuses number → g ≡ given_on (refuses number) s → outcome g l d ≡ outcome_by w s q l d
  unfolding effect
  refused_outcome number g e eg = rw (e, outcome_by_law s q l d (refuses number), state_stays s q, values_stay s q l, derivatives_stay s q d, eg)

  pub repeated_outcome : (n : ℕ) (g : Given) → w ≡ repeats n → 1 ≤ s.held.n → s.held.n ≡ n → g ≡ answered 0 s → outcome g l d ≡ outcome_by w s q l d
  unfolding effect given_on answered refused_by pair_then filled
  repeated_outcome n g e held en eg =
      rw (
        e,
        outcome_by_law s q l d (repeats n),
        state_goes_on s q n n,
        ← en,
        climbed_here s held,
        values_go_on s q l s.held.n s.held.n,
        derivatives_go_on s q d s.held.n s.held.n,
        sub_self,
        written_repeats s.held.n,
        eg,
      )

  pub climbed_outcome : (m n : ℕ) (s1 : Ladder) (g : Given) (l1 d1 : List Float) → w ≡ climbs m n → s.held.n ≡ m → s1 ≡ climbed_to s n
      → l1 ≡ filled (value_from s) (s.held.n + 1) (s.held.n + 1) (n - s.held.n) l → d1 ≡ filled (derivative_from s) s.held.n s.held.n (n - s.held.n) d
      → g ≡ answered (n - m) s1 → outcome g l1 d1 ≡ outcome_by w s q l d
  unfolding effect given_on answered refused_by pair_then
  climbed_outcome m n s1 g l1 d1 e em es el ed eg =
      rw (
        e,
        outcome_by_law s q l d (climbs m n),
        state_goes_on s q m n,
        values_go_on s q l m n,
        derivatives_go_on s q d m n,
        written_climbs m n,
        eg,
        es,
        el,
        ed,
        em,
      )

  pub started_outcome : (n : ℕ) (s1 : Ladder) (g : Given) (l1 d1 : List Float) → w ≡ starts_over n → top_rung q.v ≡ n → s1 ≡ state_for q (top_rung q.v)
      → l1 ≡ filled (value_of q.function q.v q.x) 0 0 (top_rung q.v + 1) l → d1 ≡ filled (derivative_of q.function q.v q.x) 0 0 (top_rung q.v) d
      → g ≡ answered (n + 1) s1 → outcome g l1 d1 ≡ outcome_by w s q l d
  unfolding effect given_on answered refused_by pair_then
  started_outcome n s1 g l1 d1 e en es el ed eg =
      rw (e, outcome_by_law s q l d (starts_over n), state_starts s q n, values_start s q l n, derivatives_start s q d n, written_starts_over n, eg, es, el, ed, en)

-- the n of each state that is handed back
pub climbed_n : (s : Ladder) (n : ℕ) → (climbed_to s n).held.n ≡ n
climbed_n s n = ap (λ (z : Ladder). z.held.n) (climbed_to_is s n)

pub state_n : (q : Request) (n : ℕ) → (state_for q n).held.n ≡ n
state_n q n = ap (λ (z : Ladder). z.held.n) (state_for_is q n)

-- no table changes its length
module _ (s : Ladder) (q : Request) (l d : List Float) where
  kept : (e : Effect) → (length (values_then e s q l) ≡ length l) × (length (derivatives_then e s q d) ≡ length d)
  kept stays = rw (values_stay s q l, derivatives_stay s q d) (refl, refl)
  kept (goes_on m n) =
      rw (values_go_on s q l m n, derivatives_go_on s q d m n)
      (length_filled (value_from s) (m + 1) (m + 1) (n - m) l, length_filled (derivative_from s) m m (n - m) d)
  kept (starts_at n) =
      rw (values_start s q l n, derivatives_start s q d n)
      (length_filled (value_of q.function q.v q.x) 0 0 (n + 1) l, length_filled (derivative_of q.function q.v q.x) 0 0 n d)

  pub lengths_kept : (length (requested s q l d).values ≡ length l) × (length (requested s q l d).derivatives ≡ length d)
  lengths_kept = rw (requested_is s q l d, outcome_by_law s q l d _) (kept (effect (verdict (machine_of (held_in s)) (asked q (length l) (length d)))))
