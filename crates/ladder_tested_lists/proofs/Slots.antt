-- Two tables that hold the rungs of a state: each slot equals what it is tested against; as the recurrence makes it of the two before; as the rungs.
use Rattle.std.proofs.Common.{◌≡◌, refl, sym, ap, ◌∙◌, subst, List, ◌⊎◌, inl, inr, ◌↔◌, ℕ, zero, suc, ◌+◌, ◌-◌, ◌≤◌, ◌<◌, Bool, true, false, true≢false, ◌&&◌, length, T, arith, Float, eqb, eqb-true, eq-eqb}
use Rattle.std.specs.Float.{binary64}
use Rattle.std.specs.Float.Ieee.{fits, eq}
use Rattle.std.proofs.lemmas.Bool.{cases_lt, and_parts}
use Rattle.floats.specs.Operations.{◌⊗◌, f0}
use Rattle.floats.specs.declared.Function.{Function}
use Rattle.floats.specs.declared.Function.TheVariants.{D, «V»}
use Rattle.signs.specs.Signs.{alike}
use Rattle.signs.proofs.Signs.{alike_same, alike_itself}
use Rattle.order.specs.declared.Sequence.{Sequence}
use Rattle.recurrence.specs.Recurrence.{step, own_rung_two, next_rung}
use Rattle.recurrence.proofs.Laws.{own_rung_two_D, own_rung_two_V_above, own_rung_two_V_below, next_rung_is, next_rung_fits}
use Rattle.derivatives.specs.Derivatives.{derivative}
use Rattle.derivatives.proofs.Laws.{derivative_fits}
use Rattle.rungs.specs.Rungs.{start_rungs, rung}
use Rattle.rungs.proofs.Laws.{rungs_zero_one, rung_next}
use Rattle.rungs.proofs.Fits.{start_rungs_fit}
use Rattle.slots.specs.Slots.{slot}
use Rattle.value_column.specs.OverSlots.{derivative_over}
use Rattle.ladder_tested_reader.specs.Tested.{value_over, all_alike, holds_rungs}
use Rattle.ladder_tested_reader.proofs.Alike.{each, all_from, next_due}
use Rattle.ladder_tested_lists.specs.TestedLists.{F64s, OwnTwo, Carried}

-- ---- two f64s that are alike are equal

equal : (a b : Float) → T (fits binary64 a) → T (fits binary64 b) → (alike a b ≡ true) ↔ (a ≡ b)
equal a b p q = (alike_same a b p q, λ e. subst (λ (z : Float). alike a z ≡ true) e (alike_itself a))

-- ---- what each slot is tested against is an f64

module _ (r : Sequence) (n : ℕ) (values derivatives : List Float) where
  value_fits : (k : ℕ) → T (fits binary64 (value_over r values k))
  unfolding value_over
  value_fits zero = (start_rungs_fit r).0
  value_fits (suc zero) = (start_rungs_fit r).1
  value_fits (suc (suc k)) = next_rung_fits r.function r.below r.x r.f (k + 2) (slot values k) (slot values (k + 1))

  formula_fits : (k : ℕ) → T (fits binary64 (derivative_over r values k))
  unfolding derivative_over
  formula_fits k = derivative_fits r.function r.below r.x r.f k (slot values k) (slot values (k + 1))

  -- ---- each slot

  pub record Each : Type 0 where
    pub values_due : (k : ℕ) → k ≤ n → slot values k ≡ value_over r values k
    pub derivatives_due : (k : ℕ) → k < n → slot derivatives k ≡ derivative_over r values k

  module _ (a : F64s values) (b : F64s derivatives) (room : n < length values) (derivative_room : n ≤ length derivatives) where
    pub each_slot : (holds_rungs r n values derivatives ≡ true) ↔ Each
    unfolding holds_rungs
    each_slot = (there, back)
      where
        there : (all_alike (value_over r values) values (n + 1) && all_alike (derivative_over r values) derivatives n) ≡ true → Each
        there e =
            let p = and_parts _ _ e in
            record {
              values_due = λ k h. (equal _ _ (a k (omega (arith, room, h))) (value_fits k)).0 (each (value_over r values) values (n + 1) p.0 k (omega (arith, h)));
              derivatives_due = λ k h. (equal _ _ (b k (omega (arith, derivative_room, h))) (formula_fits k)).0 (each (derivative_over r values) derivatives n p.1 k h);
            }

        back : Each → (all_alike (value_over r values) values (n + 1) && all_alike (derivative_over r values) derivatives n) ≡ true
        back e =
            let p = all_from (value_over r values) values (n + 1) (λ k h. (equal _ _ (a k (omega (arith, room, h))) (value_fits k)).1 (e.values_due k (omega (arith, h)))) in
            let q = all_from (derivative_over r values) derivatives n (λ k h. (equal _ _ (b k (omega (arith, derivative_room, h))) (formula_fits k)).1 (e.derivatives_due k h)) in
            rw (p, q)

-- ---- V below 0 at f = 0

is_D : Function → Bool
is_D D = true
is_D «V» = false

own : (fn : Function) (below : Bool) (f : Float) → (own_rung_two fn below f ≡ true) ↔ ((fn ≡ «V») × (below ≡ true) × (eq f f0 ≡ true))
unfolding is_D
own D below f = ((λ e. absurd (true≢false (sym e ∙ own_rung_two_D below f))), (λ p. absurd (true≢false (ap is_D p.0))))
own «V» false f = ((λ e. absurd (true≢false (sym e ∙ own_rung_two_V_above f))), (λ p. absurd (true≢false (sym p.1))))
own «V» true f = ((λ e. (refl, refl, sym (own_rung_two_V_below f) ∙ e)), (λ p. own_rung_two_V_below f ∙ p.2))

-- ---- each slot as the recurrence makes it of the two before

module _ (r : Sequence) (n : ℕ) (values derivatives : List Float) (least : 1 ≤ n) where
  -- what slots k − 2 and k − 1 make
  abbrev next : ℕ → Float
  next k = next_rung r.function r.below r.x r.f k (slot values (k - 2)) (slot values (k - 1))

  abbrev step_to : ℕ → Float
  step_to k = step r.function r.below r.x r.f k (slot values (k - 2)) (slot values (k - 1))

  abbrev apart : ℕ → Bool
  apart k = own_rung_two r.function r.below r.f && eqb k 2

  later_due : (k : ℕ) → 2 ≤ k → value_over r values k ≡ next k
  later_due k h =
      let e : suc (suc (k - 2)) ≡ k = omega arith in
      let d : k - 2 + 2 ≡ k = omega arith in
      let g : k - 2 + 1 ≡ k - 1 = omega arith in
      rw (e, d, g) at (next_due r values (k - 2))

  by_step : (k : ℕ) → 2 ≤ k → apart k ≡ false → value_over r values k ≡ step_to k
  by_step k h e = later_due k h ∙ next_rung_is r.function r.below r.x r.f k _ _ ∙ rw e

  by_own : own_rung_two r.function r.below r.f ≡ true → value_over r values 2 ≡ r.x ⊗ slot values 1
  by_own e = later_due 2 (omega arith) ∙ next_rung_is r.function r.below r.x r.f 2 _ _ ∙ rw e

  -- the step at k, or rung 2 of V below 0 at f = 0
  told : (k : ℕ) (b : Bool) → apart k ≡ b → (¬ ((k ≡ 2) × OwnTwo r) × (apart k ≡ false)) ⊎ ((k ≡ 2) × (own_rung_two r.function r.below r.f ≡ true))
  told k true e = let p = and_parts _ _ e in inr (eqb-true k 2 p.1, p.0)
  told k false e = inl ((λ p. true≢false (sym (rw ((own r.function r.below r.f).1 p.1, eq-eqb k 2 p.0)) ∙ e)), e)

  pub as_carried : Each r n values derivatives ↔ Carried r n values derivatives
  unfolding value_over derivative_over
  as_carried = (there, back)
    where
      there : Each r n values derivatives → Carried r n values derivatives
      there e = record {
        start = (e.values_due 0 (omega arith), e.values_due 1 least);
        own_two = λ h o. e.values_due 2 h ∙ by_own ((own r.function r.below r.f).1 o);
        steps = λ k a b other. e.values_due k b ∙ stepped k a other (told k (apart k) refl);
        formulas = λ k h. e.derivatives_due k h;
      }
        where
          stepped : (k : ℕ) → 2 ≤ k → ¬ ((k ≡ 2) × OwnTwo r) → (¬ ((k ≡ 2) × OwnTwo r) × (apart k ≡ false)) ⊎ ((k ≡ 2) × (own_rung_two r.function r.below r.f ≡ true))
              → value_over r values k ≡ step_to k
          stepped k a other (inl t) = by_step k a t.1
          stepped k a other (inr t) = absurd (other (t.0, (own r.function r.below r.f).0 t.1))

      back : Carried r n values derivatives → Each r n values derivatives
      back c = record {
        values_due = λ k h. due k h (cases_lt k 2);
        derivatives_due = λ k h. c.formulas k h;
      }
        where
          later : (k : ℕ) → k ≤ n → 2 ≤ k → (¬ ((k ≡ 2) × OwnTwo r) × (apart k ≡ false)) ⊎ ((k ≡ 2) × (own_rung_two r.function r.below r.f ≡ true))
              → slot values k ≡ value_over r values k
          later k h a (inl t) = c.steps k a h t.0 ∙ sym (by_step k a t.1)
          later k h a (inr t) = rw t.0 (c.own_two (omega (arith, t.0, h)) ((own r.function r.below r.f).0 t.1) ∙ sym (by_own t.1))

          first : (k : ℕ) → k < 2 → slot values k ≡ value_over r values k
          first zero h = c.start.0
          first (suc zero) h = c.start.1
          first (suc (suc k)) h = absurd (omega (arith, h))

          due : (k : ℕ) → k ≤ n → (k < 2) ⊎ (2 ≤ k) → slot values k ≡ value_over r values k
          due k h (inl b) = first k b
          due k h (inr b) = later k h b (told k (apart k) refl)

-- ---- each slot as the rungs of the forward branch

abbrev pub formula : Sequence → ℕ → Float
formula r k = derivative r.function r.below r.x r.f k (rung r k) (rung r (k + 1))

module _ (r : Sequence) (n : ℕ) (values derivatives : List Float) (least : 1 ≤ n) where
  pub record OnRungs : Type 0 where
    pub values_are : (k : ℕ) → k ≤ n → slot values k ≡ rung r k
    pub derivatives_are : (k : ℕ) → k < n → slot derivatives k ≡ formula r k

  pub as_rungs : Each r n values derivatives ↔ OnRungs
  unfolding value_over derivative_over
  as_rungs = (there, back)
    where
      there : Each r n values derivatives → OnRungs
      there e = record {
        values_are = are;
        derivatives_are = λ k h. e.derivatives_due k h ∙ rw (are k (omega (arith, h)), are (k + 1) (omega (arith, h)));
      }
        where
          start : start_rungs r ≡ (rung r 0, rung r 1)
          start = rungs_zero_one r

          two : (k : ℕ) → suc k ≤ n → (slot values k ≡ rung r k) × (slot values (suc k) ≡ rung r (suc k))
          two zero h = (e.values_due 0 (omega arith) ∙ ap (λ (p : Float × Float). p.0) start, e.values_due 1 least ∙ ap (λ (p : Float × Float). p.1) start)
          two (suc k) h =
              let p = two k (omega (arith, h)) in
              let g : k + 1 ≡ suc k = omega arith in
              (p.1, e.values_due (suc (suc k)) h ∙ rw (g, p.0, p.1) (rung_next r k))

          are : (k : ℕ) → k ≤ n → slot values k ≡ rung r k
          are zero h = (two 0 least).0
          are (suc k) h = (two k h).1

      back : OnRungs → Each r n values derivatives
      back e = record {
        values_due = due;
        derivatives_due = λ k h. e.derivatives_are k h ∙ rw (e.values_are k (omega (arith, h)), e.values_are (k + 1) (omega (arith, h)));
      }
        where
          start : start_rungs r ≡ (rung r 0, rung r 1)
          start = rungs_zero_one r

          due : (k : ℕ) → k ≤ n → slot values k ≡ value_over r values k
          due zero h = e.values_are 0 h ∙ sym (ap (λ (p : Float × Float). p.0) start)
          due (suc zero) h = e.values_are 1 h ∙ sym (ap (λ (p : Float × Float). p.1) start)
          due (suc (suc k)) h =
              let g : k + 1 ≡ suc k = omega arith in
              e.values_are (suc (suc k)) h ∙ sym (rw (g, e.values_are k (omega (arith, h)), e.values_are (suc k) (omega (arith, h))) (rung_next r k))
