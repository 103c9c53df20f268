-- Whether there is room above a rung: what the test says of the numbers, and the other way round.
use Rattle.std.proofs.Common.{◌≡◌, ℕ, ◌≤◌, ◌<◌, true, arith}
use Rattle.std.proofs.lemmas.Bool.Decides.{nat_tests}
use Rattle.ladder_climb.specs.Climb.{room_above}

module _ (n top values derivatives : ℕ) where
  pub room_above_law : 1 ≤ n → n ≤ top → top ≤ 1000 → top < values → top ≤ derivatives → room_above n top values derivatives ≡ true
  unfolding room_above
  room_above_law h u g s d = grind (arith, nat_tests)

  pub room_facts : room_above n top values derivatives ≡ true → (1 ≤ n) × (n ≤ top) × (top ≤ 1000) × (top < values) × (top ≤ derivatives)
  unfolding room_above
  room_facts e = (grind (arith, nat_tests), grind (arith, nat_tests), grind (arith, nat_tests), grind (arith, nat_tests), grind (arith, nat_tests))
