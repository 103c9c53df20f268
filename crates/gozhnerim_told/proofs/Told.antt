-- What the C interface tells: an order by the outcomes of its two tests, a reply by what the machine says.
use Rattle.std.proofs.Common.{◌≡◌, refl, sym, ap, ◌∙◌, List, Bool, true, false, cond, ◌||◌, true≢false, ℕ, ◌+◌, ◌-◌}
use Rattle.std.proofs.Common.{◌≤◌, arith, ltb-true, ltb-false, ne_eqb, lt-ltb, le-ltb, T, ltb, length}
use Rattle.std.proofs.Common.{Float}
use Rattle.std.proofs.lemmas.Bool.Decides.{nat_tests}
use Rattle.answer.proofs.Laws.{numbered, refusal_numbers}
use Rattle.std.specs.Float.{binary64}
use Rattle.std.specs.Float.Ieee.{is_nan, fits, of_bits}
use Rattle.floats.specs.Operations.{f0}
use Rattle.order.specs.Order.{too_large, top_rung, num}
use Rattle.order.proofs.Facts.{split_facts}
use Rattle.table_refusals.specs.Refusals.{refusal_by}
use Rattle.table_refusals.proofs.Laws.{refused_order_law, refused_size, not_refused as accepted_law, of_numbers}
use Rattle.tables.proofs.Calls.{refusal_short}
use Rattle.ladder_machine.specs.declared.Request.{Request}
use Rattle.ladder_machine.specs.Machine.{request, too_short, refusal, empty, Verdict, refuses, repeats, climbs, starts_over}
use Rattle.ladder_machine.proofs.Laws.{accepted}
use Rattle.ladder_machine.proofs.Tests.{short_values, by_derivatives, refusal_by_law}
use Rattle.ladder_lists.specs.Demand3.{ask, Number}
use Rattle.ladder_lists.proofs.OneLadder.{table, long}
use Rattle.gozhnerim_structs.specs.declared.GozhnerimLadder.{GozhnerimLadder}
use Rattle.gozhnerim_told.specs.declared.GozhnerimOrder.{GozhnerimOrder}
use Rattle.gozhnerim_told.specs.Orders.{order_refusal, refused_order, accepted_order, order_in}
use Rattle.gozhnerim_told.specs.Cases.{case_in}
use Rattle.gozhnerim_lists.specs.Requests.{requested_in_c}
use Rattle.gozhnerim_lists.specs.Lists.{begun_with, says_in_c, StateRightInC}
use Rattle.gozhnerim_told.specs.Told.{refused_for, Holds, case_number, OrdersTold, CasesTold}
use Rattle.gozhnerim_lists.proofs.Lists.{begun_empty}
use Rattle.gozhnerim_lists.proofs.AnyState.{means, state_right_in_c}

-- ---- an order, by the outcomes of its two tests

zero_number : is_nan f0 ≡ false
unfolding is_nan of_bits
zero_number = refl

-- with an argument that is a number and a table that is long enough, the order alone is tested
pub by_order : (v : Float) → refusal_by v f0 false ≡ order_refusal v
unfolding order_refusal
by_order v = go (is_nan v) (too_large v) refl refl
  where
    go : (a b : Bool) → is_nan v ≡ a → too_large v ≡ b → refusal_by v f0 false ≡ cond (is_nan v) 1 (cond (too_large v) 2 0)
    go true b ea eb = rw ea (sym (refused_order_law v f0 false ea))
    go false true ea eb = rw (ea, eb) (sym (refused_size v f0 false ea zero_number eb))
    go false false ea eb = rw (ea, eb) (sym (accepted_law v f0 false ea zero_number eb refl))

-- what `order_of` takes
pub ruleset order_laws = (nat_tests, refusal_numbers, numbered, by_order)

-- what it is refused for; `short` says what is too short for an order that is taken
module _ (v x : Float) (short : GozhnerimOrder → Bool) (number : is_nan x ≡ false) where
  by_tests : (a b : Bool) → is_nan v ≡ a → too_large v ≡ b
      → refusal_by v x (short (accepted_order v)) ≡ refused_for (order_in v).refusal (short (order_in v))
  unfolding order_in order_refusal refused_order accepted_order refused_for
  by_tests true b ea eb = rw (ea) (sym (refused_order_law v x (short (accepted_order v)) ea))
  by_tests false true ea eb = rw (ea, eb) (sym (refused_size v x (short (accepted_order v)) ea number eb))
  by_tests false false ea eb = of_numbers v x (short (accepted_order v)) ea number ∙ rw (ea, eb)

  order_told : refusal_by v x (short (accepted_order v)) ≡ refused_for (order_in v).refusal (short (order_in v))
  order_told = by_tests (is_nan v) (too_large v) refl refl

module _ (v : Float) where
  -- an order is refused, or taken
  pub data Told : Type 0 where
    no : (k : ℕ) → (k ≡ 0 → ⊥) → order_in v ≡ refused_order k → Told
    yes : is_nan v ≡ false → too_large v ≡ false → order_in v ≡ accepted_order v → Told

  told_by : (a b : Bool) → is_nan v ≡ a → too_large v ≡ b → Told
  unfolding order_in order_refusal
  told_by true b ea eb = no 1 (λ z. omega arith) (rw (ea))
  told_by false true ea eb = no 2 (λ z. omega arith) (rw (ea, eb))
  told_by false false ea eb = yes ea eb (rw (ea, eb))

  told : Told
  told = told_by (is_nan v) (too_large v) refl refl

  zeros : Told → ((order_in v).refusal ≡ 0 → ⊥) → order_in v ≡ refused_order (order_in v).refusal
  unfolding refused_order accepted_order
  zeros (no k h e) refused = e ∙ ap refused_order (sym (ap (λ (o : GozhnerimOrder). o.refusal) e))
  zeros (yes a b e) refused = absurd (refused (ap (λ (o : GozhnerimOrder). o.refusal) e))

  placed : Told → (order_in v).refusal ≡ 0 → (order_in v).num ≡ num v
  unfolding refused_order accepted_order
  placed (no k h e) taken = absurd (h (sym (ap (λ (o : GozhnerimOrder). o.refusal) e) ∙ taken))
  placed (yes a b e) taken = ap (λ (o : GozhnerimOrder). o.num) e

  at_most : T (fits binary64 v) → Told → ((order_in v).table_slots ≤ 2004) × ((order_in v).value_slots ≤ 1001) × ((order_in v).derivative_slots ≤ 1000)
  unfolding refused_order accepted_order
  at_most fit (no k h e) = rw (e) (omega arith, omega arith, omega arith)
  at_most fit (yes a b e) =
      let s = split_facts v (record { number = a; small = b; fit = fit }) in
      let columns = s.num_most in
      let top = s.most in
      rw (e) (omega arith, omega arith, omega arith)

-- too short for a ladder
both_tests : (n values derivatives : ℕ) (b : Bool) → ltb values (n + 1) ≡ b → (b || ltb derivatives n) ≡ too_short n values derivatives
both_tests n values derivatives true e = short_values n values derivatives (ltb-true values (n + 1) e)
both_tests n values derivatives false e = by_derivatives n values derivatives (ltb-false values (n + 1) e)

-- ---- what a request gives, by what the machine says

module _ (held : GozhnerimLadder) (q : Request) (number : Number (request q)) (l d : List Float) where
  right : StateRightInC table held q l d
  right = state_right_in_c table long held q number l d

  not_refused : (k : ℕ) → says_in_c held (ask q l d) ≡ refuses k → k ≡ 0 → ⊥
  not_refused k e = (means table long held q number l d (refuses k) e).1

  -- its refusal is the machine's
  refused_by_law : (w : Verdict) → says_in_c held (ask q l d) ≡ w → (requested_in_c held q l d).reply.refusal ≡ refusal q (length l) (length d)
  refused_by_law (refuses k) e = rw (right.refusal k e) (sym (means table long held q number l d (refuses k) e).0)
  refused_by_law (repeats n) e = rw (right.repeat n e).2 (sym (means table long held q number l d (repeats n) e).0)
  refused_by_law (climbs m n) e = rw (right.climb m n e).4.reply (sym (means table long held q number l d (climbs m n) e).0)
  refused_by_law (starts_over n) e = rw (right.start_over n e).1 (sym (means table long held q number l d (starts_over n) e).0)

  ladder_told : is_nan q.x ≡ false → (requested_in_c held q l d).reply.refusal
      ≡ refused_for (order_in q.v).refusal (ltb (length l) (order_in q.v).value_slots || ltb (length d) (order_in q.v).derivative_slots)
  unfolding accepted_order
  ladder_told x_number =
      let n = top_rung q.v in
      let short = both_tests n (length l) (length d) (ltb (length l) (n + 1)) refl in
      refused_by_law (says_in_c held (ask q l d)) refl
      ∙ sym (refusal_by_law q (length l) (length d) _ short)
      ∙ order_told q.v q.x (λ o. ltb (length l) o.value_slots || ltb (length d) o.derivative_slots) x_number

  -- its case
  by_verdict : (w : Verdict) → says_in_c held (ask q l d) ≡ w → case_in (requested_in_c held q l d).reply ≡ case_number w
  unfolding case_in case_number
  by_verdict (refuses k) e = rw (right.refusal k e, ne_eqb k 0 (not_refused k e))
  by_verdict (repeats n) e = rw (right.repeat n e).2
  by_verdict (climbs m n) e =
      let c = right.climb m n e in
      let more = c.3 in
      rw (c.4.reply, ne_eqb (n - m) 0 (λ z. omega arith), le-ltb n (n - m) (omega arith))
  by_verdict (starts_over n) e = rw ((right.start_over n e).1, ne_eqb (n + 1) 0 (λ z. omega arith), lt-ltb n (n + 1) (omega arith))

  module _ (nothing : begun_with held ≡ empty) (answered : (requested_in_c held q l d).reply.refusal ≡ 0) where
    taken : says_in_c held (ask q l d) ≡ starts_over (top_rung q.v) → order_in q.v ≡ accepted_order q.v
    unfolding order_in order_refusal
    taken e =
        let p = accepted q (length l) (length d) (means table long held q number l d (starts_over (top_rung q.v)) e).0 in
        rw (p.0, p.2)

    held_by : (w : Verdict) → says_in_c held (ask q l d) ≡ w → Holds (order_in q.v) (requested_in_c held q l d).reply.ladder
    unfolding accepted_order
    held_by (refuses k) e = absurd (not_refused k e (rw (right.refusal k e) at answered))
    held_by (repeats n) e = absurd (true≢false (sym (begun_empty held nothing) ∙ (means table long held q number l d (repeats n) e).2))
    held_by (climbs m n) e = absurd (true≢false (sym (begun_empty held nothing) ∙ (means table long held q number l d (climbs m n) e).2))
    held_by (starts_over n) e =
        let s = right.start_over n e in
        rw (taken (e ∙ ap starts_over (sym s.0)), s.1) (refl, sym s.0, refl)

-- ---- the theorems

pub orders_told : OrdersTold
unfolding refused_order accepted_order
orders_told = record {
  refused = λ v. zeros v (told v);
  place = λ v. placed v (told v);
  tables = λ v x slots number. sym (refusal_short v x slots) ∙ order_told v x (λ o. ltb slots o.table_slots) number;
  ladders = λ held q number x_number l d. ladder_told held q number l d x_number;
  states = λ held nothing q number l d answered. held_by held q number l d nothing answered (says_in_c held (ask q l d)) refl;
  most = λ v fit. at_most v fit (told v);
}

pub cases_told : CasesTold
cases_told = record { cases = λ held q number l d. by_verdict held q number l d (says_in_c held (ask q l d)) refl }
