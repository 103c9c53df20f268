-- Slots that are alike with what they are tested against: one slot more, one that differs, each of them.
use Rattle.std.proofs.Common.{◌≡◌, refl, sym, ap, ◌∙◌, List, ◌⊎◌, inl, inr, ℕ, zero, suc, ◌+◌, ◌-◌, ◌≤◌, ◌<◌, Bool, true, false, ◌&&◌, eq-or-lt_of_le, arith, Float}
use Rattle.std.proofs.lemmas.Bool.{and_parts}
use Rattle.signs.specs.Signs.{alike}
use Rattle.recurrence.specs.Recurrence.{step, next_rung}
use Rattle.order.specs.declared.Sequence.{Sequence}
use Rattle.rungs.specs.Rungs.{start_rungs}
use Rattle.rungs.proofs.Laws.{next_is_step}
use Rattle.slots.specs.Slots.{slot}
use Rattle.ladder_tested_reader.specs.Tested.{value_over, all_alike}

and_no : (b : Bool) → (b && false) ≡ false
and_no true = refl
and_no false = refl

module _ (due : ℕ → Float) (l : List Float) where
  pub none_yet : all_alike due l 0 ≡ true
  unfolding all_alike
  none_yet = refl

  pub one_more : (n : ℕ) → all_alike due l n ≡ true → alike (slot l n) (due n) ≡ true → all_alike due l (n + 1) ≡ true
  unfolding all_alike
  one_more n h e = let up : n + 1 ≡ suc n = omega arith in rw (up, h, e)

  pub differs : (k n : ℕ) → k < n → alike (slot l k) (due k) ≡ false → all_alike due l n ≡ false
  unfolding all_alike
  differs k zero h e = absurd (omega (arith, h))
  differs k (suc n) h e = go (eq-or-lt_of_le (omega (arith, h))) (λ i. differs k n i e)
    where
      go : (k ≡ n) ⊎ (k < n) → (k < n → all_alike due l n ≡ false) → all_alike due l (suc n) ≡ false
      go (inl i) f = let d : alike (slot l n) (due n) ≡ false = rw i at e in rw d (and_no _)
      go (inr i) f = rw (f i)

  pub each : (n : ℕ) → all_alike due l n ≡ true → (k : ℕ) → k < n → alike (slot l k) (due k) ≡ true
  unfolding all_alike
  each zero e k h = absurd (omega (arith, h))
  each (suc n) e k h = go (eq-or-lt_of_le (omega (arith, h))) (each n (and_parts _ _ e).0 k)
    where
      go : (k ≡ n) ⊎ (k < n) → (k < n → alike (slot l k) (due k) ≡ true) → alike (slot l k) (due k) ≡ true
      go (inl i) f = rw i (and_parts _ _ e).1
      go (inr i) f = f i

  pub all_from : (n : ℕ) → ((k : ℕ) → k < n → alike (slot l k) (due k) ≡ true) → all_alike due l n ≡ true
  unfolding all_alike
  all_from zero h = refl
  all_from (suc n) h = rw (all_from n (λ k b. h k (omega arith)), h n (omega arith))

  -- a slot by the outcome of its test
  pub right : (k : ℕ) (b : Bool) (w : Float) → b ≡ true → b ≡ alike (slot l k) w → w ≡ due k → alike (slot l k) (due k) ≡ true
  right k b w e tested is = rw (← is) (sym tested ∙ e)

  pub wrong : (k n : ℕ) (b : Bool) (w : Float) → k < n → b ≡ false → b ≡ alike (slot l k) w → w ≡ due k → false ≡ all_alike due l n
  wrong k n b w h e tested is = sym (differs k n h (rw (← is) (sym tested ∙ e)))

  -- a turn of a loop over the slots
  pub turned : (k : ℕ) (b : Bool) (w : Float) → all_alike due l k ≡ true → b ≡ true → b ≡ alike (slot l k) w → w ≡ due k → all_alike due l (k + 1) ≡ true
  turned k b w so_far e tested is = one_more k so_far (right k b w e tested is)

-- ---- what a value is tested against

module _ (r : Sequence) (l : List Float) where
  module _ (low high : Float) (is : (low, high) ≡ start_rungs r) where
    pub zero_due : low ≡ value_over r l 0
    unfolding value_over
    zero_due = ap (λ (p : Float × Float). p.0) is

    pub one_due : high ≡ value_over r l 1
    unfolding value_over
    one_due = ap (λ (p : Float × Float). p.1) is

  pub next_due : (k : ℕ) → value_over r l (suc (suc k)) ≡ next_rung r.function r.below r.x r.f (k + 2) (slot l k) (slot l (k + 1))
  unfolding value_over
  next_due k = refl

  pub two_due : (w : Float) → w ≡ next_rung r.function r.below r.x r.f 2 (slot l 0) (slot l 1) → w ≡ value_over r l 2
  two_due w is = is ∙ sym (next_due 0)

  pub step_due : (k : ℕ) (w : Float) → 3 ≤ k → w ≡ step r.function r.below r.x r.f k (slot l (k - 2)) (slot l (k - 1)) → w ≡ value_over r l k
  step_due k w h is =
      let same = next_is_step r k (slot l (k - 2)) (slot l (k - 1)) h in
      let turn = next_due (k - 2) in
      grind arith
