-- Whether the columns have room: what the test says of the numbers, and the other way round.
use Rattle.std.proofs.Common.{◌≡◌, ℕ, ◌≤◌, ◌<◌, true}
use Rattle.std.proofs.lemmas.Bool.{and_from, and_parts, le-leb, leb-true}
use Rattle.value_column.proofs.Room.{room_up_to_law, room_facts}
use Rattle.ladder_columns.specs.Columns.{room_for}

module _ (n values derivatives : ℕ) where
  pub room_for_law : 1 ≤ n → n ≤ 1000 → n < values → n ≤ derivatives → room_for n values derivatives ≡ true
  unfolding room_for
  room_for_law h g s d = and_from _ _ (room_up_to_law n values h g s) (le-leb n derivatives d)

  pub columns_room : room_for n values derivatives ≡ true → (1 ≤ n) × (n ≤ 1000) × (n < values) × (n ≤ derivatives)
  unfolding room_for
  columns_room e =
      let p = and_parts _ _ e in
      let q = room_facts n values p.0 in
      (q.0, q.1, q.2, leb-true n derivatives p.1)
