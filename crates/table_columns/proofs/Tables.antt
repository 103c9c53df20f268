-- Both columns in one table: how many values are written, and the two halves as one table.
use Rattle.std.proofs.Common.{◌≡◌, refl, sym, ap, ◌∙◌, List, ◌++◌, Bool, true, false, ◌&&◌, cond, eqb, ℕ, ◌+◌, ◌≤◌, ◌<◌}
use Rattle.std.proofs.Common.{inl, zero-add, arith, length, get_or, set, take, drop, length-drop}
use Rattle.std.specs.Float.{nan}
use Rattle.std.specs.Float.Ieee.{Float}
use Rattle.std.proofs.lemmas.Bool.Decides.{nat_tests}
use Rattle.std.proofs.lemmas.Bool.{true≢false, cond_both, eqb-true, eq-eqb}
use Rattle.std.proofs.lemmas.List.{length-take, take-append-drop}
use Rattle.floats.specs.Operations.{◌⊗◌}
use Rattle.floats.specs.declared.Function.{Function}
use Rattle.order.specs.declared.Sequence.{Sequence}
use Rattle.recurrence.specs.Recurrence.{own_rung_two}
use Rattle.derivatives.specs.Derivatives.{derivative}
use Rattle.rungs.specs.Rungs.{rung}
use Rattle.rungs.specs.ColumnValues.{value, derivative_at}
use Rattle.branches.proofs.Laws.{own_forward}
use Rattle.rungs.proofs.Laws.{own_rung_two_law, value_forward, derivative_at_law}
use Rattle.slots.specs.Slots.{filled, slot}
use Rattle.slots.proofs.Filled.{length_filled, filled_more, filled_same, filled_out, filled_front, filled_back}
use Rattle.value_column.specs.OverSlots.{derivative_over}
use Rattle.value_column.specs.ValueColumn.{all_values}
use Rattle.value_column.proofs.Branches.{slot_filled, all_values_law}
use Rattle.ladder_columns.specs.Columns.{room_for, value_column, derivative_column}
use Rattle.ladder_columns.proofs.Room.{room_for_law}
use Rattle.ladder_columns.proofs.Columns.{value_column_with_room, derivative_column_with_room}
use Rattle.table_columns.specs.TableColumns.{room_in, values_in, both_columns}
use Rattle.table_columns.specs.TableColumns.Open.{both_columns_is, values_in_is}
use Rattle.table_columns.proofs.Room.{table_room}

-- value 2 of a branch that has its own, stored beside values 0 and 1
own_two : (r : Sequence) (u : Float) (l l1 : List Float) → 2 < length l → own_rung_two r.function r.below r.f ≡ true → l1 ≡ filled (value r u 1) 0 0 2 l
    → set l1 2 (r.x ⊗ slot l1 1) ≡ filled (value r u 1) 0 0 3 l
own_two r u l l1 room own e1 =
    let v = value r u 1 in
    let forward : v ≡ rung r = value_forward r u 1 (own_forward r.function r.below r.x u r.f own) in
    let one : slot l1 1 ≡ v 1 = rw e1 (slot_filled v 2 l 1 (omega arith) (omega arith)) in
    let two : r.x ⊗ v 1 ≡ v 2 = rw forward (own_rung_two_law r own) in
    rw (one, two, e1) (filled_more v 0 0 2 l)

module _ (r : Sequence) where
  -- a turn of a loop over the derivatives, by the values in the same table, which are below slot num
  pub derived_slot : (num n k : ℕ) (w : Float) (t l : List Float) → k < n → n < num → t ≡ filled (derivative_over r l) 0 num k l
      → w ≡ derivative r.function r.below r.x r.f k (get_or t k nan) (get_or t (k + 1) nan) → set t (num + k) w ≡ filled (derivative_over r l) 0 num (k + 1) l
  unfolding derivative_over slot
  derived_slot num n k w t l h apart et er =
      let d = derivative_over r l in
      let low : get_or t k nan ≡ get_or l k nan = rw et (filled_out d 0 num k l nan k (inl (omega arith))) in
      let high : get_or t (k + 1) nan ≡ get_or l (k + 1) nan = rw et (filled_out d 0 num k l nan (k + 1) (inl (omega arith))) in
      rw (er, low, high, et) (rw zero-add at (filled_more d 0 num k l))

-- between n + 1 and n + 2 values are written
pub values_in_law : (fn : Function) (s : Bool) (f : Float) (n : ℕ) → (n + 1 ≤ values_in fn s f n) × (values_in fn s f n ≤ n + 2)
values_in_law fn s f n = rw (values_in_is fn s f n) (enough (own_rung_two fn s f && eqb n 1) (only_one (own_rung_two fn s f)))
  where
    only_one : (a : Bool) → (a && eqb n 1) ≡ true → n ≡ 1
    only_one true e = eqb-true n 1 e
    only_one false e = absurd (true≢false (sym e))

    enough : (b : Bool) → (b ≡ true → n ≡ 1) → (n + 1 ≤ cond b 3 (n + 1)) × (cond b 3 (n + 1) ≤ n + 2)
    enough true h = let e = h refl in (omega arith, omega arith)
    enough false h = (omega arith, omega arith)

-- and they fit a column
fits_column : (fn : Function) (s : Bool) (f : Float) (n num : ℕ) → 3 ≤ num → n < num → values_in fn s f n ≤ num
fits_column fn s f n num three room =
    rw (values_in_is fn s f n) (cond_both (own_rung_two fn s f && eqb n 1) 3 (n + 1) (λ m. m ≤ num) (λ e. three) (λ e. omega arith))

-- three where V has value 2 at n = 1, and n + 1 where it has no formula of its own
pub three_values : (fn : Function) (s : Bool) (f : Float) (n : ℕ) → own_rung_two fn s f ≡ true → n ≡ 1 → values_in fn s f n ≡ 3
three_values fn s f n own one = rw (values_in_is fn s f n, own, eq-eqb n 1 one)

pub plain_values : (fn : Function) (s : Bool) (f : Float) (n : ℕ) → own_rung_two fn s f ≡ false → values_in fn s f n ≡ n + 1
plain_values fn s f n own = rw (values_in_is fn s f n, own)

with_own_two : (r : Sequence) (u : Float) (n : ℕ) (l l1 : List Float) → 2 < length l → l1 ≡ filled (value r u n) 0 0 (n + 1) l
    → cond (own_rung_two r.function r.below r.f && eqb n 1) (set l1 2 (r.x ⊗ slot l1 1)) l1 ≡ filled (value r u n) 0 0 (values_in r.function r.below r.f n) l
with_own_two r u n l l1 room e1 = rw (values_in_is r.function r.below r.f n) (go (own_rung_two r.function r.below r.f) (eqb n 1) refl refl)
  where
    go : (own one : Bool) → own_rung_two r.function r.below r.f ≡ own → eqb n 1 ≡ one
        → cond (own && one) (set l1 2 (r.x ⊗ slot l1 1)) l1 ≡ filled (value r u n) 0 0 (cond (own && one) 3 (n + 1)) l
    go false one a b = e1
    go true false a b = e1
    go true true a b =
        let e : n ≡ 1 = eqb-true n 1 b in
        rw e (own_two r u l l1 room a (rw e at e1))

module _ (r : Sequence) (u : Float) (n num : ℕ) (l : List Float) where
  -- what `fill_table` leaves where there is room, and where there is none
  pub both_filled : room_in n num (length l) ≡ true
      → both_columns r u n num l ≡ filled (derivative_at r u n) 0 num n (filled (value r u n) 0 0 (values_in r.function r.below r.f n) l)
  both_filled room = rw (both_columns_is r u n num l, room)

  pub both_left : room_in n num (length l) ≡ false → l ≡ both_columns r u n num l
  both_left room = rw (both_columns_is r u n num l, room)

  -- in one table: l1, l2 and l3 are what the values, value 2 and the derivatives over the values leave
  pub both_columns_law : (l1 l2 l3 : List Float) → room_in n num (length l) ≡ true → l1 ≡ all_values r u n l
      → l2 ≡ cond (own_rung_two r.function r.below r.f && eqb n 1) (set l1 2 (r.x ⊗ slot l1 1)) l1 → l3 ≡ filled (derivative_over r l2) 0 num n l2
      → l3 ≡ both_columns r u n num l
  unfolding derivative_over
  both_columns_law l1 l2 l3 room e1 e2 e3 =
      let v = value r u n in
      let c = values_in r.function r.below r.f n in
      let many = values_in_law r.function r.below r.f n in
      let w = table_room n num (length l) room in
      let values : l2 ≡ filled v 0 0 c l = e2 ∙ with_own_two r u n l l1 (omega (arith, w)) (e1 ∙ all_values_law r u n l w.0 w.1 (omega (arith, w))) in
      let at : (k : ℕ) → k ≤ n → slot l2 k ≡ v k = λ k h. rw values (slot_filled v c l k (omega (arith, many)) (omega (arith, many, w))) in
      let each : (k : ℕ) → k < n → derivative_over r l2 (0 + k) ≡ derivative_at r u n (0 + k) =
      λ k h. rw (at (0 + k) (omega arith), at (0 + k + 1) (omega arith)) (sym (derivative_at_law r u n (0 + k))) in
      e3
      ∙ filled_same (derivative_over r l2) (derivative_at r u n) 0 0 num n l2 each
      ∙ ap (filled (derivative_at r u n) 0 num n) values
      ∙ sym (both_filled room)

-- ---- the columns in the two halves of a table: v1 and d1 are what `fill_columns` leaves there

module _ (r : Sequence) (u : Float) (n num : ℕ) (l v1 d1 : List Float) (room : room_in n num (length l) ≡ true)
    (ev1 : v1 ≡ value_column r u n (take num l) (length (drop num l))) (ed1 : d1 ≡ derivative_column r u n (length (take num l)) (drop num l)) where
  abbrev pub count : ℕ
  count = values_in r.function r.below r.f n

  front_length : length (take num l) ≡ num
  front_length = let w = table_room n num (length l) room in omega (arith, w, length-take {A = Float})

  columns : room_for n (length (take num l)) (length (drop num l)) ≡ true
  columns =
      let w = table_room n num (length l) room in
      room_for_law n (length (take num l)) (length (drop num l)) w.0 w.1 (omega (arith, front_length)) (omega (arith, length-drop {A = Float}))

  front : v1 ≡ filled (value r u n) 0 0 (n + 1) (take num l)
  front = ev1 ∙ value_column_with_room r u n (take num l) (length (drop num l)) columns

  back : d1 ≡ filled (derivative_at r u n) 0 0 n (drop num l)
  back = ed1 ∙ derivative_column_with_room r u n (drop num l) (length (take num l)) columns

  pub halves_law : (v2 : List Float) → v2 ≡ filled (value r u n) 0 0 count (take num l) → v2 ++ d1 ≡ both_columns r u n num l
  halves_law v2 e =
      let values = value r u n in
      let slopes = derivative_at r u n in
      let w = table_room n num (length l) room in
      let fits : count ≤ num = fits_column r.function r.below r.f n num w.3 w.2 in
      let long : length v2 ≡ num = ap length e ∙ length_filled values 0 0 count (take num l) ∙ front_length in
      let at : length v2 + 0 ≡ num = omega (arith, long) in
      ap (λ (t : List Float). v2 ++ t) back
      ∙ filled_back slopes 0 0 v2 (drop num l) n
      ∙ ap (λ (i : ℕ). filled slopes 0 i n (v2 ++ drop num l)) at
      ∙ ap (filled slopes 0 num n)
      (ap (λ (t : List Float). t ++ drop num l) e
      ∙ filled_front values 0 0 (take num l) (drop num l) count (omega (arith, fits, front_length))
      ∙ ap (filled values 0 0 count) (take-append-drop num l))
      ∙ sym (both_filled r u n num l room)

  -- with value 2, which V has at n = 1, and without it
  pub with_two : own_rung_two r.function r.below r.f ≡ true → n ≡ 1 → set v1 2 (r.x ⊗ get_or v1 1 nan) ++ d1 ≡ both_columns r u n num l
  unfolding slot
  with_two own one =
      let w = table_room n num (length l) room in
      halves_law (set v1 2 (r.x ⊗ get_or v1 1 nan))
      (rw (three_values r.function r.below r.f n own one, one) (own_two r u (take num l) v1 (omega (arith, w, front_length)) own (rw one at front)))

  pub without_two : (own_rung_two r.function r.below r.f && eqb n 1) ≡ false → v1 ++ d1 ≡ both_columns r u n num l
  without_two none = halves_law v1 (rw (values_in_is r.function r.below r.f n, none) front)

-- what a table is, with room and without it, for `fill_table`
pub ruleset table_cases = (table_room, both_left, with_two, without_two, nat_tests)
