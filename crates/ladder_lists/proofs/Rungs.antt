-- The rungs finished of the last accepted request in the two tables: begun by a start-over, kept or grown by every other call, and handed on with the tables.
--
use Rattle.std.proofs.Common.{◌≡◌, sym, ap, ◌∙◌, true, true≢false, List, ◌⊎◌, inl, inr, ℕ, ◌+◌, ◌-◌, ◌≤◌, ◌<◌, min}
use Rattle.std.proofs.Common.{arith, T, length, get_or, take, drop, length-take, length-drop, length-take-le}
use Rattle.std.proofs.Common.{get_or-take, get_or-drop, ext_get_or, Float}
use Rattle.std.proofs.Math.Option.{Option, some, none}
use Rattle.std.specs.Float.{nan, binary64}
use Rattle.std.specs.Float.Ieee.{fits}
use Rattle.std.proofs.Math.Nat.{min-le_right}
use Rattle.std.proofs.lemmas.Bool.{cases_lt}
use Rattle.order.specs.Order.{num}
use Rattle.slots.specs.Slots.{filled, slot}
use Rattle.slots.proofs.Filled.{length_filled, filled_in, filled_out}
use Rattle.ladder_machine.specs.declared.Request.{Request}
use Rattle.ladder_machine.specs.Machine.{request, Effect, stays, goes_on, starts_at}
use Rattle.ladder_machine.specs.Held.{counts_empty}
use Rattle.ladder_machine.proofs.Laws.{accepted, Does}
use Rattle.ladder_states.specs.declared.Ladder.{Ladder}
use Rattle.ladder_states.specs.States.{held_in}
use Rattle.ladder_lists.specs.Demand3.{Long, tabled, tabled_value, tabled_derivative, values_due, derivatives_due, ask, Onward, Handed, Anew}
use Rattle.ladder_lists.proofs.Held.{facts, table_value, table_derivative, table_length}
use Rattle.ladder_lists.proofs.Turns.{Finished, state_at, KnownAt, later, known_request, goes_on_law, on_below, kept_value, kept_derivative}

-- ---- handed on: as they were left, and not cut shorter

onward_length : (l l' : List Float) → Onward l l' → length l ≤ length l'
onward_length l l' e =
    let a : min (length l) (length l') ≡ length l = sym (length-take (length l) l') ∙ ap (λ (t : List Float). length t) e in
    rw a at (min-le_right (length l) (length l'))

onward_slot : (l l' : List Float) → Onward l l' → (k : ℕ) → k < length l → slot l' k ≡ slot l k
unfolding slot
onward_slot l l' e k h = sym (get_or-take (length l) l' k nan h) ∙ ap (λ (t : List Float). get_or t k nan) e

-- ---- a stretch that goes on where the rungs end

grown : (g : ℕ → Float) (a n : ℕ) (l : List Float) → a + n ≤ length l → ((k : ℕ) → k < a → slot l k ≡ g k) → (k : ℕ) → k < a + n → slot (filled g a a n l) k ≡ g k
unfolding slot
grown g a n l fit low k h = go (cases_lt k a)
  where
    go : (k < a) ⊎ (a ≤ k) → get_or (filled g a a n l) k nan ≡ g k
    go (inl b) = filled_out g a a n l nan k (inl b) ∙ low k b
    go (inr b) = let e : a + (k - a) ≡ k = omega arith in rw e at (filled_in g a a n l nan (k - a) (omega arith) fit)

module _ (table : Request → List Float) (long : Long table) where
  pub record RungsIn (p : Finished) (l d : List Float) : Type 0 where
    pub room : p.n < length l
    pub derivative_room : p.n ≤ length d
    pub values : (k : ℕ) → k ≤ p.n → slot l k ≡ tabled_value table p.request k
    pub derivatives : (k : ℕ) → k < p.n → slot d k ≡ tabled_derivative table p.request k

  abbrev pub RungsAt : Option Finished → List Float → List Float → Type 0
  RungsAt none l d = Unit
  RungsAt (some p) l d = RungsIn p l d

  handed_on : (o : Option Finished) (l d l' d' : List Float) → Onward l l' → Onward d d' → RungsAt o l d → RungsAt o l' d'
  handed_on none l d l' d' a b r = tt
  handed_on (some p) l d l' d' a b r = record {
    room = omega (arith, onward_length l l' a, r.room);
    derivative_room = omega (arith, onward_length d d' b, r.derivative_room);
    values = λ k h. onward_slot l l' a k (omega (arith, r.room)) ∙ r.values k h;
    derivatives = λ k h. onward_slot d d' b k (omega (arith, r.derivative_room)) ∙ r.derivatives k h;
  }

  -- ---- what a call leaves

  module _ (q : Request) (l d : List Float) (fv : T (fits binary64 q.v)) (fx : T (fits binary64 q.x)) where
    begun : (s : Ladder) (o : Option Finished) (n : ℕ) → Does (held_in s) q (length l) (length d) (starts_at n)
        → RungsAt (later o (starts_at n) (request q)) (values_due table (starts_at n) (request q) l) (derivatives_due table (starts_at n) (request q) d)
    unfolding values_due derivatives_due
    begun s o n a =
        let c = accepted q (length l) (length d) a.0 in
        record {
          room = rw (length_filled (tabled_value table q) 0 0 (n + 1) l) (omega (arith, c.3, a.1));
          derivative_room = rw (length_filled (tabled_derivative table q) 0 0 n d) (omega (arith, c.4, a.1));
          values = λ k h. grown (tabled_value table q) 0 (n + 1) l (omega (arith, c.3, a.1)) (λ j b. absurd (omega arith)) k (omega arith);
          derivatives = λ k h. grown (tabled_derivative table q) 0 n d (omega (arith, c.4, a.1)) (λ j b. absurd (omega arith)) k (omega arith);
        }

    gone_on : (p : Finished) (k : KnownAt (some p)) (m n : ℕ) (s₀ : Ladder) → Does (held_in (state_at s₀ (some p))) q (length l) (length d) (goes_on m n) → RungsIn p l d
        → RungsAt (later (some p) (goes_on m n) (request q)) (values_due table (goes_on m n) (request q) l) (derivatives_due table (goes_on m n) (request q) d)
    unfolding values_due derivatives_due
    gone_on p k m n s₀ a r =
        let known = known_request q (length l) (length d) fv fx a.0 in
        let g = goes_on_law p q (length l) (length d) m n a in
        let low = on_below p k q known g in
        let c = accepted q (length l) (length d) a.0 in
        let v : (i : ℕ) → i < m + 1 → slot l i ≡ tabled_value table q i =
        λ i b.
        r.values i (omega (arith, g.from))
        ∙ table_value p.request k.0 table long i (omega (arith, g.from, k.1))
        ∙ kept_value p k q known g i
        ∙ sym (table_value q known table long i (omega (arith, g.from, low))) in
        let w : (i : ℕ) → i < m → slot d i ≡ tabled_derivative table q i =
        λ i b.
        r.derivatives i (omega (arith, g.from))
        ∙ table_derivative p.request k.0 table long i (omega (arith, g.from, k.1))
        ∙ kept_derivative p k q known g i
        ∙ sym (table_derivative q known table long i (omega (arith, g.from, low))) in
        record {
          room = rw (length_filled (tabled_value table q) (m + 1) (m + 1) (n - m) l) (omega (arith, c.3, g.to));
          derivative_room = rw (length_filled (tabled_derivative table q) m m (n - m) d) (omega (arith, c.4, g.to));
          values = λ i h. grown (tabled_value table q) (m + 1) (n - m) l (omega (arith, c.3, g.to, g.from, low)) v i (omega (arith, g.from, low, g.to));
          derivatives = λ i h. grown (tabled_derivative table q) m (n - m) d (omega (arith, c.4, g.to, g.from, low)) w i (omega (arith, g.from, low, g.to));
        }

    -- if the tables were handed on since the last start-over, or if the call is one
    pub rungs_then : (s₀ : Ladder) → counts_empty (held_in s₀) ≡ true → (o : Option Finished) → KnownAt o → (e : Effect) → Does (held_in (state_at s₀ o)) q (length l) (length d) e
        → (so_far : Type 0) (vs ds : List Float) → (so_far → RungsAt o vs ds) → Anew so_far (Handed vs ds (ask q l d)) e
        → RungsAt (later o e (request q)) (values_due table e (request q) l) (derivatives_due table e (request q) d)
    unfolding values_due derivatives_due
    rungs_then s₀ nothing o k stays a so_far vs ds r h = handed_on o vs ds l d h.1.0 h.1.1 (r h.0)
    rungs_then s₀ nothing none k (goes_on m n) a so_far vs ds r h = absurd (true≢false (sym nothing ∙ a.2))
    rungs_then s₀ nothing (some p) k (goes_on m n) a so_far vs ds r h = gone_on p k m n s₀ a (handed_on (some p) vs ds l d h.1.0 h.1.1 (r h.0))
    rungs_then s₀ nothing o k (starts_at n) a so_far vs ds r h = begun (state_at s₀ o) o n a

  -- ---- the table call's own

  module _ (p : Finished) (known : KnownAt (some p)) (l d : List Float) (r : RungsIn p l d) where
    pub value_rungs : take (p.n + 1) l ≡ take (p.n + 1) (tabled table p.request)
    unfolding slot tabled_value
    value_rungs =
        let n = p.n in
        let t = tabled table p.request in
        let f = facts p.request known.0 in
        let a : length (take (n + 1) l) ≡ n + 1 = length-take-le (n + 1) l (omega (arith, r.room)) in
        let b : length (take (n + 1) t) ≡ n + 1 = length-take-le (n + 1) t (omega (arith, known.1, f.room, f.least, table_length p.request known.0 table long)) in
        ext_get_or nan (take (n + 1) l) (take (n + 1) t) (a ∙ sym b)
        (λ k h. get_or-take (n + 1) l k nan (omega arith) ∙ r.values k (omega arith) ∙ sym (get_or-take (n + 1) t k nan (omega arith)))

    pub derivative_rungs : take p.n d ≡ take p.n (drop (num p.request.v) (tabled table p.request))
    unfolding slot tabled_derivative
    derivative_rungs =
        let n = p.n in
        let t = tabled table p.request in
        let m = num p.request.v in
        let a : length (take n d) ≡ n = length-take-le n d r.derivative_room in
        let c : length (drop m t) ≡ length t - m = length-drop m t in
        let b : length (take n (drop m t)) ≡ n = length-take-le n (drop m t) (omega (arith, known.1, table_length p.request known.0 table long)) in
        ext_get_or nan (take n d) (take n (drop m t)) (a ∙ sym b)
        (λ k h. get_or-take n d k nan (omega arith) ∙ r.derivatives k (omega arith) ∙ sym (get_or-take n (drop m t) k nan (omega arith) ∙ get_or-drop m t k nan))
