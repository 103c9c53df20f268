-- Whether a column has room: what the test says of the numbers, and the other way round.
use Rattle.std.proofs.Common.{◌≡◌, ℕ, ◌≤◌, ◌<◌, true, arith}
use Rattle.std.proofs.lemmas.Bool.Decides.{nat_tests}
use Rattle.value_column.specs.ValueColumn.{room_up_to}

module _ (n slots : ℕ) where
  pub room_up_to_law : 1 ≤ n → n ≤ 1000 → n < slots → room_up_to n slots ≡ true
  unfolding room_up_to
  room_up_to_law h g s = grind (arith, nat_tests)

  pub room_facts : room_up_to n slots ≡ true → (1 ≤ n) × (n ≤ 1000) × (n < slots)
  unfolding room_up_to
  room_facts e = (grind (arith, nat_tests), grind (arith, nat_tests), grind (arith, nat_tests))
