-- Whether a table has room: what the test says of the numbers, and the other way round.
use Rattle.std.proofs.Common.{◌≡◌, ℕ, ◌*◌, ◌≤◌, ◌<◌, true}
use Rattle.std.proofs.lemmas.Bool.{and_from, and_parts, le-leb, leb-true}
use Rattle.value_column.proofs.Room.{room_up_to_law, room_facts}
use Rattle.table_columns.specs.TableColumns.{room_in}

module _ (n num slots : ℕ) where
  pub room_in_law : 1 ≤ n → n ≤ 1000 → n < num → 3 ≤ num → 2 * num ≤ slots → room_in n num slots ≡ true
  unfolding room_in
  room_in_law h g a t s =
      and_from _ _ (and_from _ _ (room_up_to_law n num h g a) (le-leb 3 num t)) (le-leb (2 * num) slots s)

  pub table_room : room_in n num slots ≡ true → (1 ≤ n) × (n ≤ 1000) × (n < num) × (3 ≤ num) × (2 * num ≤ slots)
  unfolding room_in
  table_room e =
      let p = and_parts _ _ e in
      let q = and_parts _ _ p.0 in
      let s = room_facts n num q.0 in
      (s.0, s.1, s.2, leb-true 3 num q.1, leb-true (2 * num) slots p.1)
