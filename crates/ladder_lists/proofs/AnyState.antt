-- Any state handed in: each case by the definition's clause, in the words of the recurrence step and the derivative formula.
use Rattle.std.proofs.Common.{◌≡◌, refl, sym, ap, ◌∙◌, subst, false, List, ℕ, ◌+◌, ◌-◌, ◌≤◌, ◌<◌, arith, length, Float}
use Rattle.std.proofs.Math.Option.{some, none}
use Rattle.std.specs.Float.{nan}
use Rattle.std.proofs.Math.Nat.{sub_self}
use Rattle.order.specs.Order.{top_rung}
use Rattle.slots.specs.Slots.{filled, slot}
use Rattle.slots.proofs.Filled.{length_filled, filled_in, filled_out, filled_same}
use Rattle.tables.specs.Tables.{answer}
use Rattle.ladder_machine.specs.declared.Request.{Request}
use Rattle.ladder_machine.specs.Machine.{request, refusal, Verdict, refuses, repeats, climbs, starts_over, refused_by, Effect, stays, goes_on, starts_at, effect, held_then}
use Rattle.ladder_machine.specs.Held.{counts_empty, machine_of}
use Rattle.ladder_machine.proofs.Laws.{accepted, not_empty, not_counted_empty, Means, verdict_means, climb_parts, Does, effect_means, written_refuses, written_repeats, written_climbs, written_starts_over, next_is, held_then_stays, held_then_goes_on, held_then_starts_at, next_same_sequence}
use Rattle.ladder_climb.specs.Climb.Open.{carried_derivative_is}
use Rattle.ladder_climb.proofs.Climbs.{carried_low, carried_high, carried_step}
use Rattle.ladder_states.specs.declared.Ladder.{Ladder}
use Rattle.ladder_states.specs.States.{state_of, sequence_in, held_in}
use Rattle.ladder.specs.Ladder.{value_from, derivative_from, climbed_to, pair_then, given_on, Outcome, outcome, state_then, outcome_by, requested}
use Rattle.ladder.specs.Ladder.Open.{climbed_to_is, pair_from_is, state_stays, state_goes_on, state_starts, values_stay, values_go_on, derivatives_stay, derivatives_go_on, outcome_by_law, requested_is}
use Rattle.ladder.proofs.Climbs.{climbed_here}
use Rattle.ladder_lists.specs.Demand3.{ask, derived, Number, Long, tabled_value, tabled_derivative, held_after, state_due, pair_due, values_due, derivatives_due, says, JustWritten, Climbed, StateRight}
use Rattle.ladder_lists.proofs.Held.{Known, facts, state_held, state_machine}
use Rattle.ladder_lists.proofs.Turns.{known_request, starts}

-- a stretch is written, and all else is as found
just_written : (g : ℕ → Float) (a n : ℕ) (l : List Float) → a + n ≤ length l → JustWritten g a n l (filled g a a n l)
unfolding slot
just_written g a n l room = record {
  same_length = length_filled g a a n l;
  slots = λ k h b. let e : a + (k - a) ≡ k = omega arith in rw e at (filled_in g a a n l nan (k - a) (omega arith) room);
  others = λ k h. filled_out g a a n l nan k h;
}

module _ (table : Request → List Float) (long : Long table) (s : Ladder) (q : Request) (l d : List Float) where
  abbrev said : Verdict
  said = says s (ask q l d)

  by : (w : Verdict) → said ≡ w → requested s q l d ≡ outcome_by w s q l d
  by w e = requested_is s q l d ∙ rw e

  means : (w : Verdict) → said ≡ w → Means (held_in s) q (length l) (length d) w
  means w e = subst (Means (held_in s) q (length l) (length d)) e (verdict_means (held_in s) q (length l) (length d))

  does : Does (held_in s) q (length l) (length d) (effect said)
  does = effect_means (held_in s) q (length l) (length d)

  known : Number (request q) → refusal q (length l) (length d) ≡ 0 → Known q
  known f ok = known_request q (length l) (length d) f.0 f.1 ok

  -- ---- the cases

  refused_is : (number : ℕ) → said ≡ refuses number → requested s q l d ≡ outcome (record { state = s; refusal = number; pair = none; written = none }) l d
  unfolding given_on refused_by effect pair_then
  refused_is number e = by (refuses number) e ∙ outcome_by_law s q l d (refuses number) ∙ rw (state_stays s q, values_stay s q l, derivatives_stay s q d, written_refuses number)

  repeat_is : (n : ℕ) → said ≡ repeats n → (s.held.n ≡ n) × (top_rung q.v ≡ n)
      × (requested s q l d
      ≡ outcome (record { state = s; refusal = 0; pair = some (s.values.low, derived s (n - 1) s.values.low s.values.high); written = some 0 }) l d)
  unfolding given_on refused_by effect pair_then filled
  repeat_is n e =
      let p = means (repeats n) e in
      let held = (not_empty (held_in s) p.2).0 in
      let here : climbed_to s n ≡ s = ap (climbed_to s) (sym p.4) ∙ climbed_here s held in
      let formula = ap (λ (i : ℕ). derived s (i - 1) s.values.low s.values.high) p.4 in (
        p.4,
        p.1,
        by (repeats n) e
            ∙ outcome_by_law s q l d (repeats n)
            ∙ rw (state_goes_on s q n n, here, values_go_on s q l n n, derivatives_go_on s q d n n, sub_self, written_repeats n, pair_from_is s, formula),
      )

  climb_is : (m n : ℕ) → said ≡ climbs m n → requested s q l d
      ≡ outcome (given_on (climbs m n) (climbed_to s n)) (filled (value_from s) (m + 1) (m + 1) (n - m) l) (filled (derivative_from s) m m (n - m) d)
  unfolding effect
  climb_is m n e = by (climbs m n) e ∙ outcome_by_law s q l d (climbs m n) ∙ rw (state_goes_on s q m n, values_go_on s q l m n, derivatives_go_on s q d m n)

  -- the rungs carried on
  climbed_is : (m n : ℕ) → said ≡ climbs m n → (s.held.n ≡ m) × (top_rung q.v ≡ n) × (2 ≤ m) × (m < n) × Climbed s m n l d (requested s q l d)
  unfolding given_on refused_by effect pair_then
  climbed_is m n e =
      let p = means (climbs m n) e in
      let c = climb_parts s.held.sequence.function s.held.sequence.below s.held.sequence.x s.held.sequence.f s.held.n (top_rung q.v) p.5 in
      let a = accepted q (length l) (length d) p.0 in
      let up : m < n = omega (arith, c.0, p.4, p.1) in
      let two : 2 ≤ m = omega (arith, c.1, p.4) in
      let w = value_from s in
      let is = climb_is m n e in
      let state : climbed_to s n ≡ state_of (sequence_in s) n (w (n - 1)) (w n) = climbed_to_is s n in
      let formula : (k : ℕ) → derivative_from s k ≡ derived s k (w k) (w (k + 1)) = carried_derivative_is (sequence_in s) s.held.n s.values.low s.values.high in
      let over : filled (derivative_from s) m m (n - m) d ≡ filled (λ (k : ℕ). derived s k (w k) (w (k + 1))) m m (n - m) d =
      filled_same (derivative_from s) (λ (k : ℕ). derived s k (w k) (w (k + 1))) m m m (n - m) d (λ k b. formula (m + k)) in (
        p.4,
        p.1,
        two,
        up,
        record {
          w = w;
          low = ap (λ (k : ℕ). w (k - 1)) (sym p.4) ∙ carried_low (sequence_in s) s.held.n s.values.low s.values.high (omega (arith, c.1));
          high = ap w (sym p.4) ∙ carried_high (sequence_in s) s.held.n s.values.low s.values.high;
          carried = λ k h b. carried_step (sequence_in s) s.held.n s.values.low s.values.high k (omega (arith, c.1)) (omega (arith, p.4));
          values = rw is (just_written w (m + 1) (n - m) l (omega (arith, a.3, p.1)));
          derivatives = rw (is, over) (just_written (λ (k : ℕ). derived s k (w k) (w (k + 1))) m (n - m) d (omega (arith, a.4, p.1)));
          state = rw (is, state);
          pair = rw (is, state, pair_from_is);
          refusal = rw is;
          written = rw (is, written_climbs m n);
        },
      )

  start_is : (n : ℕ) → Number (request q) → said ≡ starts_over n → (top_rung q.v ≡ n)
      × (requested s q l d
      ≡ outcome (record { state = held_after table q n; refusal = 0; pair = answer q.function q.v q.x (length (table q)); written = some (n + 1) })
      (filled (tabled_value table q) 0 0 (n + 1) l)
      (filled (tabled_derivative table q) 0 0 n d))
  unfolding given_on refused_by effect state_due pair_due values_due derivatives_due
  start_is n f e =
      let p = means (starts_over n) e in
      let z = starts table long q l d f.0 f.1 s none n p in
      (p.1, by (starts_over n) e ∙ outcome_by_law s q l d (starts_over n) ∙ rw (z.pair, z.state, z.values, z.derivatives, written_starts_over n))

  -- ---- the state handed out

  handed_out : (requested s q l d).given.state ≡ state_then (effect said) s q
  unfolding given_on
  handed_out = ap (λ (o : Outcome). o.given.state) (by said refl ∙ outcome_by_law s q l d said)

  -- by the effect: it does not count as empty, and its machine is the next
  holding_then : Number (request q) → (e : Effect) → Does (held_in s) q (length l) (length d) e → refusal q (length l) (length d) ≡ 0 → counts_empty (held_in (state_then e s q)) ≡ false
  holding_then f stays a ok = absurd (a ok)
  holding_then f (goes_on m n) a ok =
      let p = not_empty (held_in s) a.2 in
      let o = facts q (known f ok) in
      rw (state_goes_on s q m n, climbed_to_is s n)
      (not_counted_empty _ (omega (arith, o.least, a.1)) (omega (arith, o.most, a.1)) p.2 p.3 p.4)
  holding_then f (starts_at n) a ok = rw (state_starts s q n) (state_held q (known f ok) n (omega (arith, (facts q (known f ok)).least, a.1)) (omega (arith, a.1)))

  machine_then : Number (request q) → (e : Effect) → Does (held_in s) q (length l) (length d) e → machine_of (held_in (state_then e s q)) ≡ held_then (machine_of (held_in s)) e (request q)
  machine_then f stays a = rw (state_stays s q) (sym (held_then_stays (machine_of (held_in s)) (request q)))
  machine_then f (goes_on m n) a =
      next_same_sequence (held_in s) q (length l) (length d) m n (held_in (state_then (goes_on m n) s q)) a (holding_then f (goes_on m n) a a.0) (rw (state_goes_on s q m n, climbed_to_is s n))
      ∙ sym (held_then_goes_on (machine_of (held_in s)) m n q)
  machine_then f (starts_at n) a =
      rw (state_starts s q n) (state_machine q (known f a.0) n (omega (arith, (facts q (known f a.0)).least, a.1)) (omega (arith, a.1)))
      ∙ sym (held_then_starts_at (machine_of (held_in s)) n q)

  accepted_then : (w : Verdict) → Means (held_in s) q (length l) (length d) w → refused_by w ≡ 0 → refusal q (length l) (length d) ≡ 0
  unfolding refused_by
  accepted_then (refuses number) p e = p.0 ∙ e
  accepted_then (repeats n) p e = p.0
  accepted_then (climbs m n) p e = p.0
  accepted_then (starts_over n) p e = p.0

  pub state_right : StateRight table s q l d
  state_right = record {
    refusal = refused_is;
    repeat = repeat_is;
    climb = climbed_is;
    start_over = start_is;
    holding = λ f e. rw handed_out (holding_then f (effect said) does (accepted_then said (means said refl) e));
    machine = λ f. rw handed_out (machine_then f (effect said) does ∙ sym (next_is (machine_of (held_in s)) _));
  }
