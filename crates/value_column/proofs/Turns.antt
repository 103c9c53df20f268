-- A turn of each loop, over plain variables: what it stores or carries on.
use Rattle.std.proofs.Common.{◌≡◌, ap, ◌∙◌, List, inr, ℕ, ◌+◌, ◌-◌, ◌≤◌, ◌<◌, min, zero-add, arith, length, get_or, set}
use Rattle.std.specs.Float.{nan}
use Rattle.std.specs.Float.Ieee.{Float}
use Rattle.floats.specs.Operations.{◌⊗◌}
use Rattle.order.specs.declared.Sequence.{Sequence}
use Rattle.recurrence.specs.Recurrence.{step, step_down}
use Rattle.rungs.specs.Rungs.{rung, descent}
use Rattle.rungs.proofs.Laws.{rung_step, descent_step}
use Rattle.slots.specs.Slots.{filled, slot}
use Rattle.value_column.specs.OverSlots.{scaled_by}
use Rattle.slots.proofs.Filled.{filled_more, filled_before, filled_out}

-- ---- upward

module _ (r : Sequence) where
  -- the rung that a step gives
  pub climbed : (k : ℕ) (a b w : Float) → 3 ≤ k → a ≡ rung r (k - 2) → b ≡ rung r (k - 1) → w ≡ step r.function r.below r.x r.f k a b
      → w ≡ rung r k
  climbed k a b w h ea eb er = er ∙ rw (ea, eb) (rung_step r k h)

  -- stored
  pub climbed_slot : (k : ℕ) (w : Float) (t l : List Float) → t ≡ filled (rung r) 0 0 k l → w ≡ rung r k
      → set t k w ≡ filled (rung r) 0 0 (k + 1) l
  climbed_slot k w t l et er = rw (et, er) (rw zero-add at (filled_more (rung r) 0 0 k l))

-- ---- downward

module _ (r : Sequence) (top : ℕ) (low high : Float) where
  pub lowered_turn : (k : ℕ) (a b w : Float) → 0 < k → k ≤ top → a ≡ descent r top low high k → b ≡ descent r top low high (k + 1)
      → w ≡ step_down r.function r.x r.f (k - 1) a b → w ≡ descent r top low high (k - 1)
  lowered_turn k a b w p h ea eb er =
      let e : k ≡ k - 1 + 1 = omega arith in
      let g : k + 1 ≡ k - 1 + 2 = omega arith in
      er
      ∙ rw (ea, eb)
      (ap (λ (i : ℕ). step_down r.function r.x r.f (k - 1) (descent r top low high i) (descent r top low high (k + 1))) e
      ∙ ap (λ (i : ℕ). step_down r.function r.x r.f (k - 1) (descent r top low high (k - 1 + 1)) (descent r top low high i)) g
      ∙ descent_step r top low high (k - 1) (omega arith))

  -- stored where there is a slot for it
  module _ (k : ℕ) (t l : List Float) (some : 0 < k) (below : k ≤ top) (et : t ≡ filled (descent r top low high) k k (min top (length l) - k) l) where
    value : ℕ → Float
    value = descent r top low high

    pub lowered_slot : (w : Float) → k - 1 < length l → w ≡ descent r top low high (k - 1)
        → set t (k - 1) w ≡ filled (descent r top low high) (k - 1) (k - 1) (min top (length l) - (k - 1)) l
    unfolding value
    lowered_slot w room er =
        let m = min top (length l) in
        let e : k ≡ k - 1 + 1 = omega arith in
        let g : m - k + 1 ≡ m - (k - 1) = omega arith in
        rw (et, er)
        (ap (λ (i : ℕ). set (filled value i i (m - k) l) (k - 1) (value (k - 1))) e
        ∙ filled_before nan value (k - 1) (m - k) l (omega arith)
        ∙ ap (λ (i : ℕ). filled value (k - 1) (k - 1) i l) g)

-- ---- a slot that is read before it is written

pub scaled_slot : (s : Float) (k : ℕ) (t l : List Float) → t ≡ filled (scaled_by s l) 0 0 k l → set t k (get_or t k nan ⊗ s) ≡ filled (scaled_by s l) 0 0 (k + 1) l
unfolding scaled_by slot
scaled_slot s k t l e =
    rw (e, filled_out (scaled_by s l) 0 0 k l nan k (inr (omega arith))) (rw zero-add at (filled_more (scaled_by s l) 0 0 k l))
