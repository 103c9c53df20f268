-- What the calls of each branch leave together: its value column.
use Rattle.std.proofs.Common.{◌≡◌, sym, ap, ◌∙◌, List, ◌++◌, ℕ, ◌+◌, ◌-◌, ◌≤◌, ◌<◌, min, zero-add, arith}
use Rattle.std.proofs.Common.{length, length-set, set, take, drop}
use Rattle.std.specs.Float.{nan}
use Rattle.std.specs.Float.Ieee.{Float}
use Rattle.std.proofs.lemmas.List.{length-take, take-append-drop}
use Rattle.floats.specs.Operations.{◌⊘◌, f0}
use Rattle.order.specs.declared.Sequence.{Sequence}
use Rattle.recurrence.specs.Recurrence.{next_rung}
use Rattle.rungs.specs.Rungs.{start_value, start_rungs, rung, descent, top_rungs, downward_rung, seed, raw_rung, scaled_rung}
use Rattle.rungs.specs.ColumnValues.{value, derivative_at}
use Rattle.rungs.proofs.Laws.{derivative_at_law, rungs_zero_one, rung_two, descent_top, descent_above, descent_on, downward_rung_law, raw_rung_law, scaled_rung_law, value_forward, value_downward, value_scaled}
use Rattle.slots.specs.Slots.{filled, slot}
use Rattle.value_column.specs.OverSlots.{scaled_by, derivative_over}
use Rattle.value_column.specs.ValueColumn.{all_values}
use Rattle.value_column.specs.ValueColumn.Open.{all_values_is}
use Rattle.value_column.proofs.Room.{room_up_to_law}
use Rattle.slots.proofs.Filled.{length_filled, filled_front, filled_one, filled_in, filled_on, filled_same, filled_over, filled_under, filled_before}

-- slot k of a column
pub slot_filled : (value : ℕ → Float) (n : ℕ) (l : List Float) (k : ℕ) → k < n → n ≤ length l → slot (filled value 0 0 n l) k ≡ value k
unfolding slot
slot_filled value n l k h fits = rw zero-add at (filled_in value 0 0 n l nan k h (rw zero-add fits))

-- ---- forward

module _ (r : Sequence) (low high : Float) where
  pub first : ◌≡◌ {A = Float × Float} (low, high) (start_rungs r) → low ≡ rung r 0
  first e = ap (λ (w : Float × Float). w.0) (e ∙ rungs_zero_one r)

  pub second : ◌≡◌ {A = Float × Float} (low, high) (start_rungs r) → high ≡ rung r 1
  second e = ap (λ (w : Float × Float). w.1) (e ∙ rungs_zero_one r)

  pub third : (two : Float) → ◌≡◌ {A = Float × Float} (low, high) (start_rungs r) → two ≡ next_rung r.function r.below r.x r.f 2 low high → two ≡ rung r 2
  third two e et = et ∙ rw (first e, second e) (rung_two r)

module _ (r : Sequence) (n : ℕ) (l l1 : List Float) (low high : Float) where
  pub two_rungs : n ≡ 1 → ◌≡◌ {A = Float × Float} (low, high) (start_rungs r) → l1 ≡ set (set l 0 low) 1 high → l1 ≡ filled (rung r) 0 0 (n + 1) l
  unfolding filled
  two_rungs en es e1 = e1 ∙ rw (first r low high es, second r low high es, en)

  pub three_rungs : (two : Float) → ◌≡◌ {A = Float × Float} (low, high) (start_rungs r) → two ≡ next_rung r.function r.below r.x r.f 2 low high
      → set (set (set l 0 low) 1 high) 2 two ≡ filled (rung r) 0 0 3 l
  unfolding filled
  three_rungs two es et = rw (first r low high es, second r low high es, third r low high two es et)

  -- l1, l2 and l3 are what the stores and a climb from rung 3 leave
  pub all_rungs : (two : Float) (l2 l3 : List Float) → 2 ≤ n → ◌≡◌ {A = Float × Float} (low, high) (start_rungs r) → two ≡ next_rung r.function r.below r.x r.f 2 low high
      → l1 ≡ set (set l 0 low) 1 high → l2 ≡ set l1 2 two → l3 ≡ filled (rung r) 3 3 (n - 2) l2 → l3 ≡ filled (rung r) 0 0 (n + 1) l
  all_rungs two l2 l3 h es et e1 e2 e3 =
      let e : 3 + (n - 2) ≡ n + 1 = omega arith in
      let v = rung r in
      let s : l2 ≡ filled v 0 0 3 l = rw (e2, e1) (three_rungs two es et) in
      e3 ∙ rw s (filled_on v 0 0 3 (n - 2) l) ∙ ap (λ (i : ℕ). filled v 0 0 i l) e

-- ---- downward: l1 and l2 are what the stores and the descent leave

pub all_lowered : (r : Sequence) (u : Float) (n : ℕ) (l l1 l2 : List Float) (low high : Float) → 1 ≤ n → n < length l
    → ◌≡◌ {A = Float × Float} (low, high) (top_rungs r u n) → l1 ≡ set (set l (n - 1 + 1) high) (n - 1) low
    → l2 ≡ filled (descent r (n - 1) low high) 0 0 (n - 1) l1 → l2 ≡ filled (downward_rung r u n) 0 0 (n + 1) l
all_lowered r u n l l1 l2 low high h room et e1 e2 =
    let v = descent r (n - 1) low high in
    let top : low ≡ v (n - 1) = sym (descent_top r (n - 1) low high) in
    let above : high ≡ v (n - 1 + 1) = sym (descent_above r (n - 1) low high) in
    let e : n - 1 + 2 ≡ n + 1 = omega arith in
    let s : l1 ≡ filled v (n - 1) (n - 1) 2 l =
    e1
    ∙ ap (λ (z : Float). set (set l (n - 1 + 1) z) (n - 1) low) above
    ∙ ap (λ (t : List Float). set t (n - 1) low) (filled_one v (n - 1 + 1) (n - 1 + 1) l)
    ∙ ap (λ (z : Float). set (filled v (n - 1 + 1) (n - 1 + 1) 1 l) (n - 1) z) top
    ∙ filled_before nan v (n - 1) 1 l (omega arith) in
    let same : (k : ℕ) → v k ≡ downward_rung r u n k =
    λ k. sym (downward_rung_law r u n k ∙ ap (λ (w : Float × Float). descent r (n - 1) w.0 w.1 k) (sym et)) in
    e2
    ∙ rw s (filled_under nan v (n - 1) 2 l (omega arith))
    ∙ ap (λ (i : ℕ). filled v 0 0 i l) e
    ∙ filled_same v (downward_rung r u n) 0 0 0 (n + 1) l (λ k b. same (0 + k))

-- the same by the index n, and with a descent that stops at the end of the list
pub lowered_column : (r : Sequence) (u : Float) (n : ℕ) (l l1 l2 : List Float) (low high : Float) → 1 ≤ n → n < length l
    → ◌≡◌ {A = Float × Float} (low, high) (top_rungs r u n) → l1 ≡ set (set l n high) (n - 1) low
    → l2 ≡ filled (descent r (n - 1) low high) 0 0 (min (n - 1) (length l1)) l1 → l2 ≡ filled (downward_rung r u n) 0 0 (n + 1) l
lowered_column r u n l l1 l2 low high h room et e1 e2 =
    let d : n ≡ n - 1 + 1 = omega arith in
    let long : length l1 ≡ length l = ap length e1 ∙ simp length-set in
    let m : min (n - 1) (length l1) ≡ n - 1 = omega arith in
    all_lowered r u n l l1 l2 low high h room et (e1 ∙ ap (λ (i : ℕ). set (set l i high) (n - 1) low) d) (e2 ∙ ap (λ (i : ℕ). filled (descent r (n - 1) low high) 0 0 i l1) m)

-- ---- scaled: l1 and l2 are what a descent and the scaling leave

module _ (r : Sequence) (n : ℕ) (l l1 l2 : List Float) (start : Float) (room : n < length l) where
  scaled_over : start ≡ start_value r r.f → l1 ≡ filled (raw_rung r n) 0 0 (n + 1) l → l2 ≡ filled (scaled_by (start ⊘ slot l1 0) l1) 0 0 (n + 1) l1
      → l2 ≡ filled (scaled_rung r n) 0 0 (n + 1) l
  unfolding scaled_by
  scaled_over es raw e2 =
      let v = raw_rung r n in
      let at : (k : ℕ) → k < n + 1 → slot l1 k ≡ v k = λ k b. rw raw (slot_filled v (n + 1) l k b (omega arith)) in
      let s = start ⊘ slot l1 0 in
      let each : (k : ℕ) → k < n + 1 → scaled_by s l1 (0 + k) ≡ scaled_rung r n (0 + k) =
      λ k b. rw (at (0 + k) (omega arith), at 0 (omega arith), es) (sym (scaled_rung_law r n (0 + k))) in
      e2
      ∙ filled_same (scaled_by s l1) (scaled_rung r n) 0 0 0 (n + 1) l1 each
      ∙ ap (λ (t : List Float). filled (scaled_rung r n) 0 0 (n + 1) t) raw
      ∙ filled_over nan v (scaled_rung r n) 0 0 0 (n + 1) l (omega arith)

-- from the two rungs above n, which a descent without stores gives
module _ (r : Sequence) (n : ℕ) (l l1 l2 : List Float) (low high start seeded : Float) (room : n < length l) where
  raw_column : seeded ≡ seed r.function → low ≡ descent r (n + 101) seeded f0 (n + 1) → high ≡ descent r (n + 101) seeded f0 (n + 1 + 1)
      → l1 ≡ filled (descent r (n + 1) low high) 0 0 (n + 1) l → l1 ≡ filled (raw_rung r n) 0 0 (n + 1) l
  raw_column ed el eh e1 =
      e1
      ∙ filled_same (descent r (n + 1) low high) (raw_rung r n) 0 0 0 (n + 1) l
      (λ k b. rw (el, eh, ed) (descent_on r (n + 101) (n + 1) (seed r.function) f0 (omega arith) (0 + k) (omega arith)) ∙ sym (raw_rung_law r n (0 + k)))

  pub all_scaled : seeded ≡ seed r.function → start ≡ start_value r r.f → low ≡ descent r (n + 101) seeded f0 (n + 1)
      → high ≡ descent r (n + 101) seeded f0 (n + 1 + 1) → l1 ≡ filled (descent r (n + 1) low high) 0 0 (n + 1) l
      → l2 ≡ filled (scaled_by (start ⊘ slot l1 0) l1) 0 0 (n + 1) l1 → l2 ≡ filled (scaled_rung r n) 0 0 (n + 1) l
  all_scaled ed es el eh e1 e2 = scaled_over r n l l1 l2 start room es (raw_column ed el eh e1) e2

-- in one descent, which stores the rungs that the list has room for: l is the column alone
module _ (r : Sequence) (n : ℕ) (l l1 l2 : List Float) (start seeded : Float) (long : length l ≡ n + 1) where
  raw_alone : seeded ≡ seed r.function → l1 ≡ filled (descent r (n + 101) seeded f0) 0 0 (min (n + 101) (length l)) l
      → l1 ≡ filled (raw_rung r n) 0 0 (n + 1) l
  raw_alone ed e1 =
      let e : min (n + 101) (length l) ≡ n + 1 = omega arith in
      e1
      ∙ ap (λ (i : ℕ). filled (descent r (n + 101) seeded f0) 0 0 i l) e
      ∙ filled_same (descent r (n + 101) seeded f0) (raw_rung r n) 0 0 0 (n + 1) l (λ k b. rw ed (sym (raw_rung_law r n (0 + k))))

  pub scaled_column : seeded ≡ seed r.function → start ≡ start_value r r.f → l1 ≡ filled (descent r (n + 101) seeded f0) 0 0 (min (n + 101) (length l)) l
      → l2 ≡ filled (scaled_by (start ⊘ slot l1 0) l1) 0 0 (length l1) l1 → l2 ≡ filled (scaled_rung r n) 0 0 (n + 1) l
  scaled_column ed es e1 e2 =
      let raw = raw_alone ed e1 in
      let m : length l1 ≡ n + 1 = ap length raw ∙ length_filled (raw_rung r n) 0 0 (n + 1) l ∙ long in
      scaled_over r n l l1 l2 start (omega (arith, long)) es raw (e2 ∙ ap (λ (i : ℕ). filled (scaled_by (start ⊘ slot l1 0) l1) 0 0 i l1) m)

-- the column is the front of a longer table
pub in_table : (v : ℕ → Float) (n : ℕ) (t c : List Float) → n ≤ length t → c ≡ filled v 0 0 n (take n t)
    → c ++ drop n t ≡ filled v 0 0 n t
in_table v n t c room e =
    ap (λ (l : List Float). l ++ drop n t) e
    ∙ filled_front v 0 0 (take n t) (drop n t) n (omega (arith, length-take {A = Float}))
    ∙ ap (filled v 0 0 n) (take-append-drop n t)

-- ---- the column, and the derivatives over it

module _ (r : Sequence) (u : Float) (n : ℕ) (l : List Float) where
  -- for the crates above: what the column is where there is room
  pub all_values_law : 1 ≤ n → n ≤ 1000 → n < length l → all_values r u n l ≡ filled (value r u n) 0 0 (n + 1) l
  all_values_law h g s = rw (all_values_is r u n l, room_up_to_law n (length l) h g s)

  pub over_values : n < length l → (k : ℕ) → k < n → derivative_over r (filled (value r u n) 0 0 (n + 1) l) k ≡ derivative_at r u n k
  unfolding derivative_over
  over_values room k h =
      rw (slot_filled (value r u n) (n + 1) l k (omega arith) (omega arith), slot_filled (value r u n) (n + 1) l (k + 1) (omega arith) (omega arith))
      (sym (derivative_at_law r u n k))

-- what the column is in each branch, for `fill_values`
pub ruleset value_cases = (all_values_is, value_forward, value_downward, value_scaled)
