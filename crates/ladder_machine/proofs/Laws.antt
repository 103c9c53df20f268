-- What the crates above may know of the machine beside the contracts.
use Rattle.std.proofs.Common.{◌≡◌, refl, sym, ap, ◌∙◌, subst, Bool, true, false, ◌||◌, cond, true≢false, ◌⊎◌}
use Rattle.std.proofs.Common.{inl, inr, ℕ, zero, suc, ◌+◌, ◌≤◌, ◌<◌, arith, eq-eqb, ne_eqb, eqb-true, le-ltb}
use Rattle.std.proofs.Common.{ltb, ltb-true, ltb-false, leb-true, T, eqb, Float}
use Rattle.std.specs.Float.{binary64}
use Rattle.std.specs.Float.Ieee.{fits, is_nan, le, of_bits}
use Rattle.std.specs.Bool.{beq}
use Rattle.std.specs.Float.Ieee.Bits.{of_bits-to_bits}
use Rattle.std.proofs.lemmas.Bool.{and_parts, or_parts, eqb-false}
use Rattle.std.proofs.lemmas.Float.{T_from_true}
use Rattle.floats.proofs.Booleans.{beq_same}
use Rattle.floats.specs.Operations.{◌⊕◌, bits, whole, f1}
use Rattle.signs.specs.Signs.{absolute}
use Rattle.order.specs.Order.{too_large, below, shifted, fraction_of, top_rung, num}
use Rattle.order.specs.Facts.{Split}
use Rattle.floats.specs.declared.Function.{Function}
use Rattle.floats.specs.declared.Function.TheVariants.{D, «V»}
use Rattle.branches.specs.Branches.{runs_forward}
use Rattle.table_refusals.proofs.Laws.{accepted_by, order_facts}
use Rattle.ladder_machine.specs.declared.Held.{Held}
use Rattle.ladder_machine.specs.declared.Request.{Request}
use Rattle.ladder_machine.specs.Machine.{request, asked, too_short, refusal, Machine, empty, holds, bits_of, holding, Verdict, refuses, repeats, climbs, starts_over, Effect, stays, goes_on, starts_at, effect, same_function, same_rungs, may_climb, case_by, case_of, verdict, held_then, next}
use Rattle.ladder_machine.specs.Machine.Open.{too_short_is, refusal_is, bits_of_is, same_D_V, same_V_D, same_rungs_is, may_climb_is, case_by_empty, case_by_holds, case_of_is, verdict_on_request, verdict_is}
use Rattle.ladder_machine.specs.Held.{counts_empty, machine_of}
use Rattle.ladder_machine.specs.Held.Open.{counts_empty_is, machine_of_is}
-- passed on: the written counts, what is held then, and both on a list
pub use Rattle.ladder_machine.specs.Machine.Open.{written_refuses, written_repeats, written_climbs, written_starts_over}
pub use Rattle.ladder_machine.specs.Machine.Open.{holding_is, next_is, held_then_stays, held_then_goes_on}
pub use Rattle.ladder_machine.specs.Machine.Open.{held_then_starts_at, verdicts_nil, verdicts_cons, after_nil, after_cons}
-- ... and which branch is held
pub use Rattle.ladder_machine.specs.Held.Open.{held_forward_is}

-- ---- what is held

module _ (h : Held) where
  -- a state that does not count as empty
  pub not_empty : counts_empty h ≡ false → (1 ≤ h.n) × (h.n ≤ 1000) × (is_nan h.sequence.x ≡ false) × (is_nan h.sequence.f ≡ false) × (le f1 (absolute h.sequence.f) ≡ false)
  not_empty e =
      let p = or_parts _ _ (sym (counts_empty_is h) ∙ e) in
      let q = or_parts _ _ p.0 in
      let r = or_parts _ _ q.0 in
      let s = or_parts _ _ r.0 in
      (some h.n s.0, ltb-false 1000 h.n s.1, r.1, q.1, p.1)
    where
      some : (n : ℕ) → eqb n 0 ≡ false → 1 ≤ n
      some zero e = absurd (eqb-false 0 0 e refl)
      some (suc n) e = omega arith

  -- one that does
  abbrev pub Reasons : Type 0
  Reasons = (h.n ≡ 0) ⊎ (1000 < h.n) ⊎ (is_nan h.sequence.x ≡ true) ⊎ (is_nan h.sequence.f ≡ true) ⊎ (le f1 (absolute h.sequence.f) ≡ true)

  pub reason : counts_empty h ≡ true → Reasons
  reason e = go (eqb h.n 0) refl (ltb 1000 h.n) refl (is_nan h.sequence.x) refl (is_nan h.sequence.f) refl (le f1 (absolute h.sequence.f)) refl (sym (counts_empty_is h) ∙ e)
    where
      go : (a : Bool) → eqb h.n 0 ≡ a → (b : Bool) → ltb 1000 h.n ≡ b → (c : Bool) → is_nan h.sequence.x ≡ c → (d : Bool) → is_nan h.sequence.f ≡ d → (e : Bool)
          → le f1 (absolute h.sequence.f) ≡ e → (a || b || c || d || e) ≡ true → Reasons
      go true i b j c k d l e m z = inl (eqb-true h.n 0 i)
      go false i true j c k d l e m z = inr (inl (ltb-true 1000 h.n j))
      go false i false j true k d l e m z = inr (inr (inl k))
      go false i false j false k true l e m z = inr (inr (inr (inl l)))
      go false i false j false k false l true m z = inr (inr (inr (inr m)))
      go false i false j false k false l false m z = absurd (true≢false (sym z))

  pub by_reason : Reasons → counts_empty h ≡ true
  by_reason r = go (counts_empty h) refl r
    where
      go : (b : Bool) → counts_empty h ≡ b → Reasons → counts_empty h ≡ true
      go true e r = e
      go false e (inl i) = absurd (omega (arith, (not_empty e).0, i))
      go false e (inr (inl i)) = absurd (omega (arith, (not_empty e).1, i))
      go false e (inr (inr (inl i))) = absurd (true≢false (sym i ∙ (not_empty e).2))
      go false e (inr (inr (inr (inl i)))) = absurd (true≢false (sym i ∙ (not_empty e).3))
      go false e (inr (inr (inr (inr i)))) = absurd (true≢false (sym i ∙ (not_empty e).4))

  pub no_rung_held : h.n ≡ 0 → counts_empty h ≡ true
  no_rung_held e = rw (counts_empty_is h, eq-eqb h.n 0 e)

  -- the machine begun with a state
  pub machine_empty : counts_empty h ≡ true → machine_of h ≡ empty
  machine_empty e = rw (machine_of_is h, e)

  pub machine_held : counts_empty h ≡ false
      → machine_of h ≡ holds h.sequence.function h.sequence.below (bits_of h.sequence.x) (bits_of h.sequence.f) h.n
  machine_held e = rw (machine_of_is h, e)

  -- a state whose machine is empty counts as empty
  pub empty_machine : machine_of h ≡ empty → counts_empty h ≡ true
  empty_machine e = go (counts_empty h) (sym (machine_of_is h) ∙ e)
    where
      holds_none : Machine → Bool
      holds_none empty = true
      holds_none (holds fn s x f n) = false

      go : (b : Bool) → cond b empty (holds h.sequence.function h.sequence.below (bits_of h.sequence.x) (bits_of h.sequence.f) h.n) ≡ empty → b ≡ true
      go true z = refl
      go false z = ap holds_none z

  pub machine_holding : (q : Request) (n : ℕ) → counts_empty h ≡ false
      → h ≡ record { sequence = record { function = q.function; below = below q.v; x = q.x; f = fraction_of q.v }; n = n } → machine_of h ≡ holding q n
  machine_holding q n e is = rw (machine_of_is h, e, holding_is q n, is)

  pub not_counted_empty : 1 ≤ h.n → h.n ≤ 1000 → is_nan h.sequence.x ≡ false → is_nan h.sequence.f ≡ false → le f1 (absolute h.sequence.f) ≡ false → counts_empty h ≡ false
  not_counted_empty a b c d e = rw (counts_empty_is h, ne_eqb h.n 0 (λ z. omega arith), le-ltb 1000 h.n b, c, d, e)

-- ---- what is too short, and what is not

module _ (n values derivatives : ℕ) where
  pub room : too_short n values derivatives ≡ false → (n < values) × (n ≤ derivatives)
  room e =
      let r = or_parts _ _ (sym (too_short_is n values derivatives) ∙ e) in
      let a = ltb-false values (n + 1) r.0 in
      (omega arith, ltb-false derivatives n r.1)

  pub no_room : too_short n values derivatives ≡ true → (values < n + 1) ⊎ (derivatives < n)
  no_room e = go (ltb values (n + 1)) refl
    where
      go : (b : Bool) → ltb values (n + 1) ≡ b → (values < n + 1) ⊎ (derivatives < n)
      go true s = inl (ltb-true values (n + 1) s)
      go false s = inr (ltb-true derivatives n (rw s at (sym (too_short_is n values derivatives) ∙ e)))

-- ---- what is not refused

module _ (q : Request) (values derivatives : ℕ) where
  pub accepted : refusal q values derivatives ≡ 0
      → (is_nan q.v ≡ false) × (is_nan q.x ≡ false) × (too_large q.v ≡ false) × (top_rung q.v < values) × (top_rung q.v ≤ derivatives)
  accepted e =
      let n = top_rung q.v in
      let p = accepted_by q.v q.x (too_short n values derivatives) (sym (refusal_is q values derivatives) ∙ e) in
      let r = room n values derivatives p.3 in
      (p.0, p.1, p.2, r.0, r.1)

  -- the facts of its order
  pub accepted_facts : T (fits binary64 q.v) → refusal q values derivatives ≡ 0 → Split (below q.v) (shifted q.v) (fraction_of q.v) (top_rung q.v) (num q.v)
  accepted_facts fit e = order_facts q.v q.x (too_short (top_rung q.v) values derivatives) fit (sym (refusal_is q values derivatives) ∙ e)

-- ---- the same function, side, argument and fraction

same_function_law : (a b : Function) → same_function a b ≡ true → a ≡ b
same_function_law D D e = refl
same_function_law D «V» e = absurd (true≢false (sym e ∙ same_D_V))
same_function_law «V» D e = absurd (true≢false (sym e ∙ same_V_D))
same_function_law «V» «V» e = refl

same_float : (a b : Float) → T (fits binary64 a) → T (fits binary64 b) → bits_of a ≡ bits_of b → a ≡ b
same_float a b p q e = sym (of_bits-to_bits binary64 a p) ∙ ap (of_bits binary64) (sym (bits_of_is a) ∙ e ∙ bits_of_is b) ∙ of_bits-to_bits binary64 b q

-- x and f by their bits
module _ (fn : Function) (s : Bool) (x f : ℕ) (fn' : Function) (s' : Bool) (x' f' : ℕ) where
  pub same_record : same_rungs fn s x f fn' s' x' f' ≡ true → (fn ≡ fn') × (s ≡ s') × (x ≡ x') × (f ≡ f')
  same_record e =
      let a = and_parts _ _ (sym (same_rungs_is fn s x f fn' s' x' f') ∙ e) in
      let b = and_parts _ _ a.0 in
      let c = and_parts _ _ b.0 in
      (same_function_law fn fn' c.0, beq_same s s' (T_from_true (beq s s') c.1), eqb-true x x' b.1, eqb-true f f' a.1)

-- ... and as numbers
module _ (fn : Function) (s : Bool) (x f : Float) (fn' : Function) (s' : Bool) (x' f' : Float) where
  pub same_parts : T (fits binary64 x) → T (fits binary64 f) → T (fits binary64 x') → T (fits binary64 f')
      → same_rungs fn s (bits_of x) (bits_of f) fn' s' (bits_of x') (bits_of f') ≡ true → (fn ≡ fn') × (s ≡ s') × (x ≡ x') × (f ≡ f')
  same_parts px pf px' pf' e =
      let r = same_record fn s (bits_of x) (bits_of f) fn' s' (bits_of x') (bits_of f') e in
      (r.0, r.1, same_float x x' px px' r.2, same_float f f' pf pf' r.3)

-- ---- what a verdict means, for a state's fields and a request with the lengths of its tables

module _ (h : Held) (q : Request) (values derivatives : ℕ) where
  abbrev pub same_held : Bool
  same_held = same_rungs h.sequence.function h.sequence.below (bits_of h.sequence.x) (bits_of h.sequence.f) q.function (below q.v) (bits_of q.x) (bits_of (fraction_of q.v))

  abbrev pub climb_held : Bool
  climb_held = may_climb h.sequence.function h.sequence.below (bits_of h.sequence.x) (bits_of h.sequence.f) h.n (top_rung q.v)

  abbrev pub Means : Verdict → Type 0
  Means (refuses k) = (refusal q values derivatives ≡ k) × (k ≡ 0 → ⊥)
  Means (repeats n) = (refusal q values derivatives ≡ 0) × (top_rung q.v ≡ n) × (counts_empty h ≡ false) × (same_held ≡ true) × (h.n ≡ n)
  Means (climbs m n) = (refusal q values derivatives ≡ 0) × (top_rung q.v ≡ n) × (counts_empty h ≡ false) × (same_held ≡ true) × (h.n ≡ m) × (climb_held ≡ true)
  Means (starts_over n) = (refusal q values derivatives ≡ 0) × (top_rung q.v ≡ n)

  case_means : (k : ℕ) → refusal q values derivatives ≡ k → eqb k 0 ≡ true → (e a b c : Bool) → counts_empty h ≡ e → same_held ≡ a → eqb h.n (top_rung q.v) ≡ b
      → climb_held ≡ c
      → Means (cond e (starts_over (top_rung q.v)) (cond a (cond b (repeats (top_rung q.v)) (cond c (climbs h.n (top_rung q.v)) (starts_over (top_rung q.v)))) (starts_over (top_rung q.v))))
  case_means k r z true a b c ee ea eb ec = (r ∙ eqb-true k 0 z, refl)
  case_means k r z false false b c ee ea eb ec = (r ∙ eqb-true k 0 z, refl)
  case_means k r z false true true c ee ea eb ec = (r ∙ eqb-true k 0 z, refl, ee, ea, eqb-true h.n (top_rung q.v) eb)
  case_means k r z false true false true ee ea eb ec = (r ∙ eqb-true k 0 z, refl, ee, ea, refl, ec)
  case_means k r z false true false false ee ea eb ec = (r ∙ eqb-true k 0 z, refl)

  case_is : case_of (machine_of h) q
      ≡ cond (counts_empty h) (starts_over (top_rung q.v)) (cond same_held (cond (eqb h.n (top_rung q.v)) (repeats (top_rung q.v)) (cond climb_held (climbs h.n (top_rung q.v)) (starts_over (top_rung q.v)))) (starts_over (top_rung q.v)))
  case_is = case_of_is (machine_of h) q ∙ rw (machine_of_is h) (go (counts_empty h))
    where
      go : (b : Bool)
          → case_by (cond b empty (holds h.sequence.function h.sequence.below (bits_of h.sequence.x) (bits_of h.sequence.f) h.n)) q.function (below q.v) (bits_of q.x) (bits_of (fraction_of q.v)) (top_rung q.v)
          ≡ cond b (starts_over (top_rung q.v)) (cond same_held (cond (eqb h.n (top_rung q.v)) (repeats (top_rung q.v)) (cond climb_held (climbs h.n (top_rung q.v)) (starts_over (top_rung q.v)))) (starts_over (top_rung q.v)))
      go true = case_by_empty q.function (below q.v) (bits_of q.x) (bits_of (fraction_of q.v)) (top_rung q.v)
      go false = case_by_holds h.sequence.function h.sequence.below (bits_of h.sequence.x) (bits_of h.sequence.f) h.n q.function (below q.v) (bits_of q.x) (bits_of (fraction_of q.v)) (top_rung q.v)

  -- WHAT THE MACHINE SAYS
  pub verdict_means : Means (verdict (machine_of h) (asked q values derivatives))
  verdict_means =
      subst Means (sym (verdict_is (machine_of h) (asked q values derivatives) ∙ verdict_on_request (machine_of h) q values derivatives)) (go (eqb (refusal q values derivatives) 0) refl)
    where
      go : (b : Bool) → eqb (refusal q values derivatives) 0 ≡ b → Means (cond b (case_of (machine_of h) q) (refuses (refusal q values derivatives)))
      go false e = (refl, eqb-false (refusal q values derivatives) 0 e)
      go true e =
          subst Means (sym case_is)
          (case_means (refusal q values derivatives) refl e (counts_empty h) same_held (eqb h.n (top_rung q.v)) climb_held refl refl refl refl)

  -- WHAT IT DOES to the rungs held
  abbrev pub Does : Effect → Type 0
  Does stays = refusal q values derivatives ≡ 0 → ⊥
  Does (goes_on m n) = (refusal q values derivatives ≡ 0) × (top_rung q.v ≡ n) × (counts_empty h ≡ false) × (same_held ≡ true) × (h.n ≡ m) × ((m ≡ n) ⊎ (climb_held ≡ true))
  Does (starts_at n) = (refusal q values derivatives ≡ 0) × (top_rung q.v ≡ n)

  pub effect_means : Does (effect (verdict (machine_of h) (asked q values derivatives)))
  unfolding effect
  effect_means = go (verdict (machine_of h) (asked q values derivatives)) verdict_means
    where
      go : (w : Verdict) → Means w → Does (effect w)
      go (refuses k) m = λ e. m.1 (sym m.0 ∙ e)
      go (repeats n) m = (m.0, m.1, m.2, m.3, m.4, inl refl)
      go (climbs k n) m = (m.0, m.1, m.2, m.3, m.4, inr m.5)
      go (starts_over n) m = (m.0, m.1)

  -- a state with the same parts and the new n is the machine that holds it
  pub next_state : (m n : ℕ) (h' : Held) → Does (goes_on m n) → counts_empty h' ≡ false → h'.sequence.function ≡ h.sequence.function
      → h'.sequence.below ≡ h.sequence.below → h'.sequence.x ≡ h.sequence.x → h'.sequence.f ≡ h.sequence.f → h'.n ≡ n → machine_of h' ≡ holding q n
  next_state m n h' d e a b c f g =
      let r = same_record h.sequence.function h.sequence.below (bits_of h.sequence.x) (bits_of h.sequence.f) q.function (below q.v) (bits_of q.x) (bits_of (fraction_of q.v)) d.3 in
      rw (machine_of_is h', e, holding_is q n, a, b, c, f, g, r.0, r.1, r.2, r.3)

  -- the same by one equation
  pub next_same_sequence : (m n : ℕ) (h' : Held) → Does (goes_on m n) → counts_empty h' ≡ false → h' ≡ record { sequence = h.sequence; n = n } → machine_of h' ≡ holding q n
  next_same_sequence m n h' d e is = next_state m n h' d e (rw is) (rw is) (rw is) (rw is) (rw is)

-- ---- a climb: to a higher n, from 2 or more, on a forward branch

pub climb_parts : (fn : Function) (s : Bool) (x f : Float) (m n : ℕ) → may_climb fn s (bits_of x) (bits_of f) m n ≡ true
    → (m < n) × (2 ≤ m) × (T (fits binary64 x) → T (fits binary64 f) → runs_forward fn s x (whole m ⊕ f) ≡ true)
climb_parts fn s x f m n e =
    let u = runs_forward fn s (bits (bits_of x)) (whole m ⊕ bits (bits_of f)) in
    let a = and_parts _ _ (sym (may_climb_is fn s (bits_of x) (bits_of f) m n) ∙ e) in
    let b = and_parts _ _ a.0 in
    (ltb-true m n b.0, leb-true 2 m b.1, λ p q. rw (bits_of_is x, bits_of_is f, of_bits-to_bits binary64 x p, of_bits-to_bits binary64 f q) at a.1)

-- ---- what is held then

-- what a verdict says of the request alone, whatever the machine holds
module _ (m : Machine) (q : Request) (values derivatives : ℕ) where
  abbrev pub Accepts : Verdict → Type 0
  Accepts (refuses k) = (refusal q values derivatives ≡ k) × (k ≡ 0 → ⊥)
  Accepts (repeats n) = (refusal q values derivatives ≡ 0) × (top_rung q.v ≡ n)
  Accepts (climbs i n) = (refusal q values derivatives ≡ 0) × (top_rung q.v ≡ n)
  Accepts (starts_over n) = (refusal q values derivatives ≡ 0) × (top_rung q.v ≡ n)

  case_accepts : refusal q values derivatives ≡ 0 → Accepts (case_of m q)
  case_accepts ok = rw (case_of_is m q) (go m)
    where
      n : ℕ
      n = top_rung q.v

      by : (i : ℕ) (a b c : Bool) → Accepts (cond a (cond b (repeats n) (cond c (climbs i n) (starts_over n))) (starts_over n))
      by i true true c = (ok, refl)
      by i true false true = (ok, refl)
      by i true false false = (ok, refl)
      by i false b c = (ok, refl)

      go : (k : Machine) → Accepts (case_by k q.function (below q.v) (bits_of q.x) (bits_of (fraction_of q.v)) n)
      go empty = subst Accepts (sym (case_by_empty q.function (below q.v) (bits_of q.x) (bits_of (fraction_of q.v)) n)) (ok, refl)
      go (holds fn s x f i) =
          subst Accepts (sym (case_by_holds fn s x f i q.function (below q.v) (bits_of q.x) (bits_of (fraction_of q.v)) n))
          (by i (same_rungs fn s x f q.function (below q.v) (bits_of q.x) (bits_of (fraction_of q.v))) (eqb i n) (may_climb fn s x f i n))

  pub accepts : Accepts (verdict m (asked q values derivatives))
  accepts = subst Accepts (sym (verdict_is m (asked q values derivatives) ∙ verdict_on_request m q values derivatives)) (go (eqb (refusal q values derivatives) 0) refl)
    where
      go : (b : Bool) → eqb (refusal q values derivatives) 0 ≡ b → Accepts (cond b (case_of m q) (refuses (refusal q values derivatives)))
      go true e = case_accepts (eqb-true (refusal q values derivatives) 0 e)
      go false e = (refl, eqb-false (refusal q values derivatives) 0 e)

  -- whichever case an accepted request is, it is held
  pub next_accepted : refusal q values derivatives ≡ 0 → next m (asked q values derivatives) ≡ holding q (top_rung q.v)
  unfolding effect
  next_accepted ok = next_is m (asked q values derivatives) ∙ go (verdict m (asked q values derivatives)) accepts
    where
      go : (w : Verdict) → Accepts w → held_then m (effect w) (request q) ≡ holding q (top_rung q.v)
      go (refuses k) a = absurd (a.1 (sym a.0 ∙ ok))
      go (repeats n) a = held_then_goes_on m n n q ∙ ap (holding q) (sym a.1)
      go (climbs i n) a = held_then_goes_on m i n q ∙ ap (holding q) (sym a.1)
      go (starts_over n) a = held_then_starts_at m n q ∙ ap (holding q) (sym a.1)
