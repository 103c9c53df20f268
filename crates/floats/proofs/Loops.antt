-- Loops that count up: an invariant says that the turns that are left, from k to end − 1, lead to w.
use Rattle.std.proofs.Common.{◌≡◌, refl, sym, ap, ◌∙◌, Bool, true, false, ℕ, zero, suc, ◌+◌, ◌-◌, ◌<◌, ◌≤◌, arith}
use Rattle.floats.specs.Loops.{Turn, count_up}

module _ {S : Type 0} (turn : ℕ → S → Turn S) where
  stopped : (n k : ℕ) (s : S) → count_up turn n k (true, s) ≡ s
  unfolding count_up
  stopped zero k s = refl
  stopped (suc n) k s = refl

  -- the turn with k
  turned : (end k : ℕ) (s w : S) (b : Bool) → count_up turn (end - k) k (false, s) ≡ w → k < end → (turn k s).0 ≡ b
      → count_up turn (end - (k + 1)) (k + 1) (b, (turn k s).1) ≡ w
  unfolding count_up
  turned end k s w b i h t =
      let left : end - k ≡ suc (end - (k + 1)) = omega arith in
      ap (λ (c : Bool). count_up turn (end - (k + 1)) (k + 1) (c, (turn k s).1)) (sym t) ∙ ap (λ (n : ℕ). count_up turn n k (false, s)) (sym left) ∙ i

  -- it goes on
  pub goes : (end k : ℕ) (s w : S) → count_up turn (end - k) k (false, s) ≡ w → k < end → (turn k s).0 ≡ false
      → count_up turn (end - (k + 1)) (k + 1) (false, (turn k s).1) ≡ w
  goes end k s w i h t = turned end k s w false i h t

  -- it stops
  pub stops : (end k : ℕ) (s w : S) → count_up turn (end - k) k (false, s) ≡ w → k < end → (turn k s).0 ≡ true → (turn k s).1 ≡ w
  stops end k s w i h t = sym (stopped (end - (k + 1)) (k + 1) (turn k s).1) ∙ turned end k s w true i h t

  -- no turn is left
  pub done : (end k : ℕ) (s w : S) → count_up turn (end - k) k (false, s) ≡ w → end ≤ k → s ≡ w
  unfolding count_up
  done end k s w i h =
      let left : end - k ≡ 0 = omega arith in
      ap (λ (n : ℕ). count_up turn n k (false, s)) (sym left) ∙ i
