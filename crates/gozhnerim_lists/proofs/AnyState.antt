-- Any bit pattern of a state in C: what demand 3 says of the ladder that it is, in the fields of the reply.
use Rattle.std.proofs.Common.{◌≡◌, sym, ap, ◌∙◌, subst, true, false, true≢false, List, ℕ, ◌+◌, ◌-◌, ◌≤◌, ◌<◌, ne_eqb}
use Rattle.std.proofs.Common.{length, Float}
use Rattle.std.proofs.Math.Option.{Option, some, none}
use Rattle.std.specs.Float.{nan}
use Rattle.order.specs.Order.{below, fraction_of, top_rung}
use Rattle.floats.specs.declared.Function.{Function}
use Rattle.recurrence.specs.Recurrence.{step}
use Rattle.derivatives.specs.Derivatives.{derivative}
use Rattle.slots.specs.Slots.{filled}
use Rattle.ladder_machine.specs.declared.Request.{Request}
use Rattle.ladder_machine.specs.Machine.{request, Machine, Verdict, refuses, repeats, climbs, starts_over, bits_of, same_rungs, verdict, next}
use Rattle.ladder_machine.specs.Held.{counts_empty, machine_of}
use Rattle.ladder_machine.proofs.Laws.{Means, verdict_means, same_record}
use Rattle.ladder_states.specs.declared.Ladder.{Ladder}
use Rattle.ladder_states.specs.States.{state_of, sequence_in, held_in}
use Rattle.ladder_states.proofs.Laws.{nothing_held}
use Rattle.ladder_lists.specs.Demand3.{ask, derived, fed, says, Number, Long, tabled_value, tabled_derivative, held_after, JustWritten, StateRight}
use Rattle.ladder_lists.proofs.Held.{table_answer}
use Rattle.ladder_lists.proofs.Turns.{known_request}
use Rattle.ladder_lists.proofs.Lists.{demand3}
use Rattle.gozhnerim_structs.specs.declared.GozhnerimLadder.{GozhnerimLadder}
use Rattle.gozhnerim_structs.specs.Answers.{pair_or_nan}
use Rattle.gozhnerim_structs.specs.Ladders.{function_of, ladder_by, ladder_in, ladder_out, handed_back, count_of, reply_of}
use Rattle.gozhnerim_lists.specs.Requests.{requested_in_c}
use Rattle.gozhnerim_lists.specs.Lists.{state_in_c, answered_in_c, begun_with, says_in_c, ClimbedInC, StateRightInC}
use Rattle.gozhnerim_lists.proofs.Lists.{same_number, begun_is, handed_on}

same_written : (g g' : ℕ → Float) (a n : ℕ) (l l' : List Float) → ((k : ℕ) → g k ≡ g' k) → JustWritten g a n l l' → JustWritten g' a n l l'
same_written g g' a n l l' e j = record { same_length = j.same_length; slots = λ k h b. j.slots k h b ∙ e k; others = j.others }

module _ (table : Request → List Float) (long : Long table) (held : GozhnerimLadder) (q : Request) (number : Number (request q)) (l d : List Float) where
  abbrev s : Ladder
  s = ladder_in held

  right : StateRight table s q l d
  right = demand3.any_state table long s q l d

  same_says : says_in_c held (ask q l d) ≡ says s (ask q l d)
  same_says = ap (λ (m : Machine). verdict m (fed (ask q l d))) (begun_is held)

  pub means : (w : Verdict) → says_in_c held (ask q l d) ≡ w → Means (held_in s) q (length l) (length d) w
  means w e = subst (Means (held_in s) q (length l) (length d)) (sym same_says ∙ e) (verdict_means (held_in s) q (length l) (length d))

  -- ---- the state that is held for the request

  abbrev read : Ladder
  read = state_of (record { function = q.function; below = below q.v; x = held.x; f = held.f }) held.n held.value_below held.value_top

  read_by : (o : Option Function) → counts_empty (held_in (ladder_by o held)) ≡ false
      → (let r = sequence_in (ladder_by o held) in same_rungs r.function r.below (bits_of r.x) (bits_of r.f) q.function (below q.v) (bits_of q.x) (bits_of (fraction_of q.v)) ≡ true)
      → ladder_by o held ≡ read
  unfolding ladder_by
  read_by none e same = absurd (true≢false (sym nothing_held ∙ e))
  read_by (some function) e same =
      let r = sequence_in (ladder_by (some function) held) in
      let p = same_record r.function r.below (bits_of r.x) (bits_of r.f) q.function (below q.v) (bits_of q.x) (bits_of (fraction_of q.v)) same in
      rw (p.0, p.1)

  is_read : counts_empty (held_in s) ≡ false
      → (let r = sequence_in s in same_rungs r.function r.below (bits_of r.x) (bits_of r.f) q.function (below q.v) (bits_of q.x) (bits_of (fraction_of q.v)) ≡ true) → s ≡ read
  unfolding ladder_in
  is_read = read_by (function_of held.function)

  -- it goes out with a new n and new values
  goes_out : s ≡ read → (n : ℕ) (low high : Float) → ladder_out (state_of (sequence_in s) n low high) ≡ state_in_c q held.x held.f n low high
  unfolding ladder_out
  goes_out r n low high = ap (λ (z : Ladder). ladder_out (state_of (sequence_in z) n low high)) r ∙ rw (same_number q.function)

  -- ---- the cases

  refused_in_c : (k : ℕ) → says_in_c held (ask q l d) ≡ refuses k
      → requested_in_c held q l d
      ≡ record { reply = record { ladder = held; refusal = k; written = 0; value = nan; derivative = nan }; values = l; derivatives = d }
  unfolding requested_in_c reply_of handed_back count_of pair_or_nan
  refused_in_c k e = rw (right.refusal k (sym same_says ∙ e), ne_eqb k 0 (means (refuses k) e).1)

  repeat_in_c : (n : ℕ) → says_in_c held (ask q l d) ≡ repeats n → (held.n ≡ n) × (top_rung q.v ≡ n)
      × (requested_in_c held q l d
      ≡ record {
        reply = record {
          ladder = state_in_c q held.x held.f n held.value_below held.value_top;
          refusal = 0;
          written = 0;
          value = held.value_below;
          derivative = derivative q.function (below q.v) held.x held.f (n - 1) held.value_below held.value_top;
        };
        values = l;
        derivatives = d;
      })
  unfolding requested_in_c reply_of handed_back count_of pair_or_nan ladder_out
  repeat_in_c n e =
      let p = means (repeats n) e in
      let r = is_read p.2 p.3 in
      let top : held.n ≡ n = sym (ap (λ (z : Ladder). z.held.n) r) ∙ p.4 in
      (top, p.1, rw ((right.repeat n (sym same_says ∙ e)).2, r, top, same_number q.function))

  climb_in_c : (m n : ℕ) → says_in_c held (ask q l d) ≡ climbs m n → (held.n ≡ m) × (top_rung q.v ≡ n) × (2 ≤ m) × (m < n)
      × ClimbedInC held q m n l d (requested_in_c held q l d)
  unfolding requested_in_c reply_of handed_back count_of pair_or_nan
  climb_in_c m n e =
      let p = means (climbs m n) e in
      let r = is_read p.2 p.3 in
      let is = right.climb m n (sym same_says ∙ e) in
      let c = is.4 in
      let w = c.w in
      let formula : (k : ℕ) → derived s k (w k) (w (k + 1)) ≡ derived read k (w k) (w (k + 1)) = λ k. ap (λ (z : Ladder). derived z k (w k) (w (k + 1))) r in
      let last : derived s (n - 1) (w (n - 1)) (w n) ≡ derived read (n - 1) (w (n - 1)) (w n) = ap (λ (z : Ladder). derived z (n - 1) (w (n - 1)) (w n)) r in (
        sym (ap (λ (z : Ladder). z.held.n) r) ∙ p.4,
        is.1,
        is.2,
        is.3,
        record {
          w = w;
          low = c.low ∙ ap (λ (z : Ladder). z.values.low) r;
          high = c.high ∙ ap (λ (z : Ladder). z.values.high) r;
          carried = λ k a b. c.carried k a b
              ∙ ap (λ (z : Ladder). let i = z.held.sequence in step i.function i.below i.x i.f k (w (k - 2)) (w (k - 1))) r;
          values = c.values;
          derivatives = same_written (λ (k : ℕ). derived s k (w k) (w (k + 1))) (λ (k : ℕ). derived read k (w k) (w (k + 1))) m (n - m) d _ formula c.derivatives;
          reply = rw (c.state, c.refusal, c.pair, c.written, goes_out r n (w (n - 1)) (w n), last);
        },
      )

  start_in_c : (n : ℕ) → says_in_c held (ask q l d) ≡ starts_over n → (top_rung q.v ≡ n)
      × (requested_in_c held q l d
      ≡ record { reply = answered_in_c table q n (n + 1); values = filled (tabled_value table q) 0 0 (n + 1) l; derivatives = filled (tabled_derivative table q) 0 0 n d })
  unfolding requested_in_c reply_of handed_back count_of pair_or_nan ladder_out held_after
  start_in_c n e =
      let p = means (starts_over n) e in
      let known = known_request q (length l) (length d) number.0 number.1 p.0 in
      (p.1, rw ((right.start_over n number (sym same_says ∙ e)).1, table_answer q known table long, p.1, same_number q.function))

  machine_in_c : begun_with (requested_in_c held q l d).reply.ladder ≡ next (begun_with held) (fed (ask q l d))
  machine_in_c =
      begun_is (requested_in_c held q l d).reply.ladder
      ∙ ap (λ (z : Ladder). machine_of (held_in z)) (handed_on held q l d)
      ∙ right.machine number
      ∙ ap (λ (m : Machine). next m (fed (ask q l d))) (sym (begun_is held))

  pub state_right_in_c : StateRightInC table held q l d
  state_right_in_c = record {
    refusal = refused_in_c;
    repeat = repeat_in_c;
    climb = climb_in_c;
    start_over = start_in_c;
    machine = machine_in_c;
  }
