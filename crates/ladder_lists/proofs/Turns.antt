-- One call of a list. Where the state holds the rungs finished of the last accepted request, what comes of the call is what is due, and then the state holds
-- those of the last accepted request again.
use Rattle.std.proofs.Common.{◌≡◌, refl, sym, ap, ◌∙◌, subst, true, true≢false, List, ◌⊎◌, inl, inr, ℕ, ◌+◌, ◌-◌, ◌≤◌}
use Rattle.std.proofs.Common.{◌<◌, arith, T, length, Float}
use Rattle.std.proofs.Math.Option.{Option, some, none}
use Rattle.std.specs.Float.{binary64}
use Rattle.std.specs.Float.Ieee.{fits}
use Rattle.order.specs.Order.{below, fraction_of, top_rung}
use Rattle.slots.specs.Slots.{filled}
use Rattle.slots.proofs.Filled.{filled_same}
use Rattle.tables.specs.Tables.{value_of, derivative_of}
use Rattle.ladder_machine.specs.declared.Request.{Request}
use Rattle.ladder_machine.specs.Machine.{Inputs, request, asked, refusal, Machine, empty, holding, bits_of, same_rungs, may_climb, Effect, stays, goes_on, starts_at, effect, verdict, held_then, next}
use Rattle.ladder_machine.specs.Held.{counts_empty, machine_of}
use Rattle.ladder_machine.proofs.Laws.{machine_empty, accepted, Does, effect_means, next_is, held_then_stays, held_then_goes_on, held_then_starts_at}
use Rattle.ladder_states.specs.declared.Ladder.{Ladder}
use Rattle.ladder_states.specs.States.{held_in}
use Rattle.ladder.specs.Ladder.{state_for, value_from, derivative_from, climbed_to, pair_then, given_on, Outcome, state_then, values_then, derivatives_then, requested}
use Rattle.ladder.specs.Ladder.Open.{state_for_is, state_stays, state_goes_on, state_starts, values_stay, values_go_on, values_start, derivatives_stay, derivatives_go_on, derivatives_start, outcome_by_law, requested_is}
use Rattle.ladder_lists.specs.Demand3.{ask, Long, tabled_value, tabled_derivative, state_due, pair_due, values_due, derivatives_due, due, later_request}
use Rattle.ladder_lists.proofs.Held.{Known, facts, state_machine, table_value, table_derivative, table_pair, state_after}
use Rattle.ladder_lists.proofs.Same.{same_value, same_derivative, carried_value_law, carried_derivative_law, carried_state, not_below}

-- ---- what is held between two calls: the last accepted request, if there is one, and the n up to which its rungs are finished

pub record Finished : Type 0 where
  pub request : Request
  pub n : ℕ

abbrev pub machine_at : Option Finished → Machine
machine_at none = empty
machine_at (some p) = holding p.request p.n

abbrev pub state_at : Ladder → Option Finished → Ladder
state_at s none = s
state_at s (some p) = state_for p.request p.n

-- 1 and 2 let the request pass, and a request finishes all its rungs
abbrev pub KnownAt : Option Finished → Type 0
KnownAt none = Unit
KnownAt (some p) = Known p.request × (p.n ≡ top_rung p.request.v)

abbrev pub request_at : Option Finished → Option Request
request_at none = none
request_at (some p) = some p.request

pub machine_at_law : (s₀ : Ladder) → counts_empty (held_in s₀) ≡ true → (o : Option Finished) → KnownAt o → machine_of (held_in (state_at s₀ o)) ≡ machine_at o
machine_at_law s₀ nothing none k = machine_empty (held_in s₀) nothing
machine_at_law s₀ nothing (some p) k = state_machine p.request k.0 p.n (omega (arith, k.1, (facts p.request k.0).least)) (omega (arith, k.1))

-- after a call
abbrev pub later : Option Finished → Effect → Inputs → Option Finished
later o stays i = o
later o (goes_on m n) (request q) = some (record { request = q; n = n })
later o (starts_at n) (request q) = some (record { request = q; n = n })

pub later_request_law : (o : Option Finished) (e : Effect) (i : Inputs) → request_at (later o e i) ≡ later_request (request_at o) e i
unfolding later_request
later_request_law o stays i = refl
later_request_law o (goes_on m n) (request q) = refl
later_request_law o (starts_at n) (request q) = refl

pub known_request : (q : Request) (values derivatives : ℕ) → T (fits binary64 q.v) → T (fits binary64 q.x) → refusal q values derivatives ≡ 0 → Known q
known_request q values derivatives fv fx ok =
    let a = accepted q values derivatives ok in
    record { order = record { number = a.0; small = a.2; fit = fv }; argument = a.1; fit = fx }

-- ---- going on from the rungs finished

pub record GoesOn (p : Finished) (q : Request) (m n : ℕ) : Type 0 where
  pub same : same_rungs p.request.function (below p.request.v) (bits_of p.request.x) (bits_of (fraction_of p.request.v)) q.function (below q.v) (bits_of q.x) (bits_of (fraction_of q.v))
      ≡ true
  pub from : p.n ≡ m
  pub to : top_rung q.v ≡ n
  pub on : (p.n ≡ top_rung q.v)
      ⊎ (may_climb p.request.function (below p.request.v) (bits_of p.request.x) (bits_of (fraction_of p.request.v)) p.n (top_rung q.v) ≡ true)

pub goes_on_law : (p : Finished) (q : Request) (values derivatives m n : ℕ) → Does (held_in (state_for p.request p.n)) q values derivatives (goes_on m n) → GoesOn p q m n
goes_on_law p q values derivatives m n d =
    let is = state_for_is p.request p.n in
    let from : p.n ≡ m = rw is at d.4 in
    record { same = rw is at d.3; from = from; to = d.1; on = go from (rw is at d.5) }
  where
    go : p.n ≡ m
        → (m ≡ n)
        ⊎ (may_climb p.request.function (below p.request.v) (bits_of p.request.x) (bits_of (fraction_of p.request.v)) p.n (top_rung q.v) ≡ true)
        → (p.n ≡ top_rung q.v)
        ⊎ (may_climb p.request.function (below p.request.v) (bits_of p.request.x) (bits_of (fraction_of p.request.v)) p.n (top_rung q.v) ≡ true)
    go from (inl e) = inl (from ∙ e ∙ sym d.1)
    go from (inr c) = inr c

module _ (p : Finished) (known_p : KnownAt (some p)) (q : Request) (known_q : Known q) {m n : ℕ} (g : GoesOn p q m n) where
  pub on_below : m ≤ n
  on_below = omega (arith, g.from, g.to, not_below p.request q known_p.0 known_q g.same p.n known_p.1 g.on)

  -- the rungs finished are the new request's too
  pub kept_value : (k : ℕ) → value_of p.request.function p.request.v p.request.x k ≡ value_of q.function q.v q.x k
  kept_value = same_value p.request q known_p.0 known_q g.same p.n known_p.1 g.on

  pub kept_derivative : (k : ℕ) → derivative_of p.request.function p.request.v p.request.x k ≡ derivative_of q.function q.v q.x k
  kept_derivative = same_derivative p.request q known_p.0 known_q g.same p.n known_p.1 g.on

  -- and so is what is carried on from them
  pub on_value : (k : ℕ) → m ≤ k + 1 → k ≤ n → value_from (state_for p.request p.n) k ≡ value_of q.function q.v q.x k
  on_value k a b = carried_value_law p.request q known_p.0 known_q g.same p.n known_p.1 g.on k (omega (arith, g.from)) (omega (arith, g.to))

  pub on_derivative : (k : ℕ) → m ≤ k → k < n → derivative_from (state_for p.request p.n) k ≡ derivative_of q.function q.v q.x k
  on_derivative k a b = carried_derivative_law p.request q known_p.0 known_q g.same p.n known_p.1 g.on k (omega (arith, g.from)) (omega (arith, g.to))

  pub on_state : climbed_to (state_for p.request p.n) n ≡ state_for q n
  on_state = rw (← g.to) (carried_state p.request q known_p.0 known_q g.same p.n known_p.1 g.on)

-- ---- the rungs of a request, as the table call has them

module _ (table : Request → List Float) (long : Long table) (q : Request) (known : Known q) where
  values_are : (a n : ℕ) (l : List Float) → a + n ≤ top_rung q.v + 1 → filled (value_of q.function q.v q.x) a a n l ≡ filled (tabled_value table q) a a n l
  values_are a n l h =
      filled_same (value_of q.function q.v q.x) (tabled_value table q) a a a n l (λ k b. sym (table_value q known table long (a + k) (omega arith)))

  derivatives_are : (a n : ℕ) (l : List Float) → a + n ≤ top_rung q.v
      → filled (derivative_of q.function q.v q.x) a a n l ≡ filled (tabled_derivative table q) a a n l
  derivatives_are a n l h =
      filled_same (derivative_of q.function q.v q.x) (tabled_derivative table q) a a a n l (λ k b. sym (table_derivative q known table long (a + k) (omega arith)))

-- ---- what comes of a call, by its effect

module _ (table : Request → List Float) (long : Long table) (q : Request) (l d : List Float) (fv : T (fits binary64 q.v)) (fx : T (fits binary64 q.x)) where
  -- s is the state given, and e the effect of what the machine says
  pub record Settled (s : Ladder) (o : Option Finished) (e : Effect) : Type 0 where
    pub state : state_then e s q ≡ state_due table s e (request q)
    pub pair : pair_then e (state_then e s q) ≡ pair_due table e (request q)
    pub values : values_then e s q l ≡ values_due table e (request q) l
    pub derivatives : derivatives_then e s q d ≡ derivatives_due table e (request q) d
    pub known : KnownAt (later o e (request q))

  known_q : refusal q (length l) (length d) ≡ 0 → Known q
  known_q ok = known_request q (length l) (length d) fv fx ok

  pub starts : (s : Ladder) (o : Option Finished) (n : ℕ) → Does (held_in s) q (length l) (length d) (starts_at n) → Settled s o (starts_at n)
  unfolding state_due pair_due values_due derivatives_due pair_then
  starts s o n a =
      let known = known_q a.0 in
      record {
        state = state_starts s q n ∙ state_after q known table long n (omega (arith, a.1));
        pair = rw (state_starts s q n, ← a.1) (sym (table_pair q known table long));
        values = values_start s q l n ∙ values_are table long q known 0 (n + 1) l (omega (arith, a.1));
        derivatives = derivatives_start s q d n ∙ derivatives_are table long q known 0 n d (omega (arith, a.1));
        known = (known, sym a.1);
      }

  goes : (p : Finished) → KnownAt (some p) → (m n : ℕ) → Does (held_in (state_for p.request p.n)) q (length l) (length d) (goes_on m n)
      → Settled (state_for p.request p.n) (some p) (goes_on m n)
  unfolding state_due pair_due values_due derivatives_due pair_then
  goes p k m n a =
      let known = known_q a.0 in
      let s = state_for p.request p.n in
      let g = goes_on_law p q (length l) (length d) m n a in
      let state : state_then (goes_on m n) s q ≡ state_for q n = state_goes_on s q m n ∙ on_state p k q known g in
      let low = on_below p k q known g in
      record {
        state = state ∙ state_after q known table long n (omega (arith, a.1));
        pair = rw (state, ← a.1) (sym (table_pair q known table long));
        values =
            values_go_on s q l m n
            ∙ filled_same (value_from s) (value_of q.function q.v q.x) (m + 1) (m + 1) (m + 1) (n - m) l (λ j b. on_value p k q known g (m + 1 + j) (omega arith) (omega arith))
            ∙ values_are table long q known (m + 1) (n - m) l (omega (arith, g.to));
        derivatives =
            derivatives_go_on s q d m n
            ∙ filled_same (derivative_from s) (derivative_of q.function q.v q.x) m m m (n - m) d (λ j b. on_derivative p k q known g (m + j) (omega arith) (omega arith))
            ∙ derivatives_are table long q known m (n - m) d (omega (arith, g.to));
        known = (known, sym g.to);
      }

  module _ (s₀ : Ladder) (nothing : counts_empty (held_in s₀) ≡ true) where
    pub does : (o : Option Finished) → KnownAt o → Does (held_in (state_at s₀ o)) q (length l) (length d) (effect (verdict (machine_at o) (asked q (length l) (length d))))
    does o k =
        subst (λ (m : Machine). Does (held_in (state_at s₀ o)) q (length l) (length d) (effect (verdict m (asked q (length l) (length d))))) (machine_at_law s₀ nothing o k)
        (effect_means (held_in (state_at s₀ o)) q (length l) (length d))

    settled : (o : Option Finished) → KnownAt o → (e : Effect) → Does (held_in (state_at s₀ o)) q (length l) (length d) e → Settled (state_at s₀ o) o e
    unfolding state_due pair_due values_due derivatives_due pair_then
    settled o k stays a =
        let s = state_at s₀ o in
        record { state = state_stays s q; pair = refl; values = values_stay s q l; derivatives = derivatives_stay s q d; known = k }
    settled none k (goes_on m n) a = absurd (true≢false (sym nothing ∙ a.2))
    settled (some p) k (goes_on m n) a = goes p k m n a
    settled o k (starts_at n) a = starts (state_at s₀ o) o n a

    -- THE CALL, from what is held
    module _ (o : Option Finished) (known : KnownAt o) where
      abbrev e : Effect
      e = effect (verdict (machine_at o) (asked q (length l) (length d)))

      now : Settled (state_at s₀ o) o e
      now = settled o known e (does o known)

      pub call_due : requested (state_at s₀ o) q l d ≡ due table (state_at s₀ o) (verdict (machine_at o) (asked q (length l) (length d))) (ask q l d)
      unfolding due given_on
      call_due =
          requested_is (state_at s₀ o) q l d
          ∙ rw (machine_at_law s₀ nothing o known)
          (outcome_by_law (state_at s₀ o) q l d (verdict (machine_at o) (asked q (length l) (length d)))
          ∙ rw (now.pair, now.state, now.values, now.derivatives))

      pub call_known : KnownAt (later o e (request q))
      call_known = now.known

      pub call_state : (requested (state_at s₀ o) q l d).given.state ≡ state_at s₀ (later o e (request q))
      unfolding due state_due
      call_state = ap (λ (z : Outcome). z.given.state) call_due ∙ go e call_known
        where
          go : (e : Effect) → KnownAt (later o e (request q)) → state_due table (state_at s₀ o) e (request q) ≡ state_at s₀ (later o e (request q))
          go stays k = refl
          go (goes_on m n) k = sym (state_after q k.0 table long n (omega (arith, k.1)))
          go (starts_at n) k = sym (state_after q k.0 table long n (omega (arith, k.1)))

      pub call_machine : next (machine_at o) (asked q (length l) (length d)) ≡ machine_at (later o e (request q))
      call_machine = next_is (machine_at o) (asked q (length l) (length d)) ∙ go e
        where
          go : (e : Effect) → held_then (machine_at o) e (request q) ≡ machine_at (later o e (request q))
          go stays = held_then_stays (machine_at o) (request q)
          go (goes_on m n) = held_then_goes_on (machine_at o) m n q
          go (starts_at n) = held_then_starts_at (machine_at o) n q
