-- The laws of `filled`: a turn of a loop, slot by slot, and two stretches as one.
use Rattle.std.proofs.Common.{◌≡◌, refl, sym, ap, ◌∙◌, List, ◌++◌, ◌⊎◌, inl, inr, ℕ, zero, suc, ◌+◌, ◌-◌, ◌≤◌, ◌<◌}
use Rattle.std.proofs.Common.{arith, length, get_or, set, take, length-set, get_or-set_same, get_or-set_other, add-suc}
use Rattle.std.proofs.Common.{add-zero, add-one}
use Rattle.std.proofs.Math.Logic.{⊎_elim}
use Rattle.std.proofs.Math.Nat.{eq-or-lt_of_le, le_of_suc-le-suc, not-suc-le-zero}
use Rattle.std.proofs.Math.Seq.{take-set-le, ext_get_or}
use Rattle.std.proofs.lemmas.List.{set-append_left, set-append_right}
use Rattle.std.proofs.lemmas.Bool.{cases_lt}
use Rattle.slots.specs.Slots.{filled}

module _ {A : Type 0} (value : ℕ → A) (from at : ℕ) where
  pub length_filled : (n : ℕ) (l : List A) → length (filled value from at n l) ≡ length l
  unfolding filled
  length_filled zero l = refl
  length_filled (suc n) l = length-set (filled value from at n l) (at + n) (value (from + n)) ∙ length_filled n l

  pub filled_one : (l : List A) → set l at (value from) ≡ filled value from at 1 l
  unfolding filled
  filled_one l = rw (add-zero at, add-zero from)

  -- one more slot at the end
  pub filled_more : (n : ℕ) (l : List A) → set (filled value from at n l) (at + n) (value (from + n)) ≡ filled value from at (n + 1) l
  unfolding filled
  filled_more n l = rw add-one

  -- a slot of the stretch
  pub filled_in : (n : ℕ) (l : List A) (d : A) (i : ℕ) → i < n → at + n ≤ length l → get_or (filled value from at n l) (at + i) d ≡ value (from + i)
  unfolding filled
  filled_in zero l d i h fits = absurd (not-suc-le-zero h)
  filled_in (suc n) l d i h fits =
      ⊎_elim
      (λ e. rw e (get_or-set_same (filled value from at n l) (at + n) (value (from + n)) d (omega (arith, length_filled n l, add-suc at n))))
      (λ lt.
      get_or-set_other (filled value from at n l) (at + n) (at + i) (value (from + n)) d (λ q. omega arith)
      ∙ filled_in n l d i lt (omega (arith, add-suc at n)))
      (eq-or-lt_of_le (le_of_suc-le-suc h))

  -- a slot outside it
  pub filled_out : (n : ℕ) (l : List A) (d : A) (k : ℕ) → (k < at) ⊎ (at + n ≤ k) → get_or (filled value from at n l) k d ≡ get_or l k d
  unfolding filled
  filled_out zero l d k h = refl
  filled_out (suc n) l d k h =
      get_or-set_other (filled value from at n l) (at + n) k (value (from + n)) d (λ q. ⊎_elim (λ b. omega arith) (λ a. omega (arith, add-suc at n)) h)
      ∙ filled_out n l d k (⊎_elim (λ b. inl b) (λ a. inr (omega (arith, add-suc at n))) h)

  -- the slots below it
  pub filled_above : (a n : ℕ) (l : List A) → a ≤ at → take a (filled value from at n l) ≡ take a l
  unfolding filled
  filled_above a zero l h = refl
  filled_above a (suc n) l h = take-set-le a (filled value from at n l) (at + n) (value (from + n)) (omega arith) ∙ filled_above a n l h

  -- two stretches, one after the other, are one
  pub filled_on : (a b : ℕ) (l : List A) → filled value (from + a) (at + a) b (filled value from at a l) ≡ filled value from at (a + b) l
  unfolding filled
  filled_on a zero l = rw add-zero
  filled_on a (suc b) l =
      let e : at + a + b ≡ at + (a + b) = omega arith in
      let g : from + a + b ≡ from + (a + b) = omega arith in
      let s : suc (a + b) ≡ a + suc b = omega arith in
      rw (filled_on a b l, e, g) (ap (λ (n : ℕ). filled value from at n l) s)

-- only the values written count, and their numbers do not
pub filled_same : {A : Type 0} (f g : ℕ → A) (i j at n : ℕ) (l : List A) → ((k : ℕ) → k < n → f (i + k) ≡ g (j + k)) → filled f i at n l ≡ filled g j at n l
unfolding filled
filled_same f g i j at zero l e = refl
filled_same f g i j at (suc n) l e = rw (filled_same f g i j at n l (λ k h. e k (omega arith)), e n (omega arith))

-- a list that has the values in the stretch and is l outside it is l filled
module _ {A : Type 0} (d : A) (value : ℕ → A) (from at n : ℕ) (t l : List A) (long : length t ≡ length l) (fits : at + n ≤ length l) where
  at_slot : ((i : ℕ) → i < n → get_or t (at + i) d ≡ value (from + i)) → ((k : ℕ) → (k < at) ⊎ (at + n ≤ k) → get_or t k d ≡ get_or l k d)
      → (k : ℕ) → (k < at) ⊎ (at ≤ k) → (k < at + n) ⊎ (at + n ≤ k) → get_or t k d ≡ get_or (filled value from at n l) k d
  at_slot ins outs k (inl b) q = outs k (inl b) ∙ sym (filled_out value from at n l d k (inl b))
  at_slot ins outs k (inr a) (inr b) = outs k (inr b) ∙ sym (filled_out value from at n l d k (inr b))
  at_slot ins outs k (inr a) (inl b) =
      let e : k ≡ at + (k - at) = omega arith in
      rw e (ins (k - at) (omega arith) ∙ sym (filled_in value from at n l d (k - at) (omega arith) fits))

  pub filled_by_slots : ((i : ℕ) → i < n → get_or t (at + i) d ≡ value (from + i)) → ((k : ℕ) → (k < at) ⊎ (at + n ≤ k) → get_or t k d ≡ get_or l k d)
      → t ≡ filled value from at n l
  filled_by_slots ins outs =
      ext_get_or d t (filled value from at n l) (long ∙ sym (length_filled value from at n l)) (λ k h. at_slot ins outs k (cases_lt k at) (cases_lt k (at + n)))

-- one more slot at the front, as a loop that counts down writes it
pub filled_before : {A : Type 0} (d : A) (value : ℕ → A) (k n : ℕ) (l : List A) → k + 1 + n ≤ length l
    → set (filled value (k + 1) (k + 1) n l) k (value k) ≡ filled value k k (n + 1) l
filled_before d value k n l fits =
    let t = filled value (k + 1) (k + 1) n l in
    let long : length t ≡ length l = length_filled value (k + 1) (k + 1) n l in
    filled_by_slots d value k k (n + 1) (set t k (value k)) l (length-set t k (value k) ∙ long) (omega arith)
    (λ i b. at_front i b (cases_lt 0 i))
    (λ j q. get_or-set_other t k j (value k) d (λ e. ⊎_elim (λ b. omega arith) (λ a. omega arith) q) ∙ filled_out value (k + 1) (k + 1) n l d j (⊎_elim (λ b. inl (omega arith)) (λ a. inr (omega arith)) q))
  where
    at_front : (i : ℕ) → i < n + 1 → (0 < i) ⊎ (i ≤ 0) → get_or (set (filled value (k + 1) (k + 1) n l) k (value k)) (k + i) d ≡ value (k + i)
    at_front i b (inl p) =
        let j = i - 1 in
        let e : k + i ≡ k + 1 + j = omega arith in
        rw e
        (get_or-set_other (filled value (k + 1) (k + 1) n l) k (k + 1 + j) (value k) d (λ q. omega arith)
        ∙ filled_in value (k + 1) (k + 1) n l d j (omega arith) fits)
    at_front i b (inr p) =
        let e : k + i ≡ k = omega arith in
        rw e (get_or-set_same (filled value (k + 1) (k + 1) n l) k (value k) d (omega (arith, length_filled value (k + 1) (k + 1) n l)))

-- the same slots written again
pub filled_over : {A : Type 0} (d : A) (f g : ℕ → A) (i j at n : ℕ) (l : List A) → at + n ≤ length l → filled g j at n (filled f i at n l) ≡ filled g j at n l
filled_over d f g i j at n l h =
    let e : length (filled f i at n l) ≡ length l = length_filled f i at n l in
    filled_by_slots d g j at n (filled g j at n (filled f i at n l)) l (length_filled g j at n (filled f i at n l) ∙ e) h
    (λ k b. filled_in g j at n (filled f i at n l) d k b (omega arith))
    (λ k q. filled_out g j at n (filled f i at n l) d k q ∙ filled_out f i at n l d k q)

-- the upper slots first, and then those below them
pub filled_under : {A : Type 0} (d : A) (value : ℕ → A) (a b : ℕ) (l : List A) → a + b ≤ length l
    → filled value 0 0 a (filled value a a b l) ≡ filled value 0 0 (a + b) l
filled_under d value a b l h =
    let u = filled value a a b l in
    let e : length u ≡ length l = length_filled value a a b l in
    filled_by_slots d value 0 0 (a + b) (filled value 0 0 a u) l (length_filled value 0 0 a u ∙ e) (omega arith)
    (λ i p. in_either i p (cases_lt i a))
    (λ k q. ⊎_elim (λ p. absurd (not-suc-le-zero p)) (λ p. filled_out value 0 0 a u d k (inr (omega arith)) ∙ filled_out value a a b l d k (inr (omega arith))) q)
  where
    in_either : (i : ℕ) → i < a + b → (i < a) ⊎ (a ≤ i) → get_or (filled value 0 0 a (filled value a a b l)) (0 + i) d ≡ value (0 + i)
    in_either i p (inl q) = filled_in value 0 0 a (filled value a a b l) d i q (omega (arith, length_filled value a a b l))
    in_either i p (inr q) =
        let e : 0 + i ≡ a + (i - a) = omega arith in
        filled_out value 0 0 a (filled value a a b l) d (0 + i) (inr (omega arith))
        ∙ rw e (filled_in value a a b l d (i - a) (omega arith) h)

-- ---- a list in two parts: a stretch within one of them is a stretch of the whole

module _ {A : Type 0} (value : ℕ → A) (from at : ℕ) (front back : List A) where
  pub filled_front : (n : ℕ) → at + n ≤ length front → filled value from at n front ++ back ≡ filled value from at n (front ++ back)
  unfolding filled
  filled_front zero h = refl
  filled_front (suc n) h =
      let t = filled value from at n front in
      let inside : at + n < length t = omega (arith, length_filled value from at n front, add-suc at n) in
      sym (set-append_left t back (at + n) (value (from + n)) inside)
      ∙ ap (λ (l : List A). set l (at + n) (value (from + n))) (filled_front n (omega (arith, add-suc at n)))

  pub filled_back : (n : ℕ) → front ++ filled value from at n back ≡ filled value from (length front + at) n (front ++ back)
  unfolding filled
  filled_back zero = refl
  filled_back (suc n) =
      let m = length front in
      let e : m + at + n - m ≡ at + n = omega arith in
      ap (λ (i : ℕ). front ++ set (filled value from at n back) i (value (from + n))) (sym e)
      ∙ sym (set-append_right front (filled value from at n back) m (m + at + n) (value (from + n)) refl (omega arith))
      ∙ ap (λ (l : List A). set l (m + at + n) (value (from + n))) (filled_back n)
