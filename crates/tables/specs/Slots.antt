-- The table call slot by slot: what follows from the equation of the whole list, for every list (01, "Splitting the
-- order" and "A request comes in").
use Rattle.std.specs.Prelude.{◌≡◌, List, ◌⊎◌, true, ℕ, ◌+◌, ◌-◌, ◌≤◌, ◌<◌, length, Float}
use Rattle.std.proofs.Math.Option.{some, none}
use Rattle.order.specs.Order.{below, fraction_of, top_rung, num}
use Rattle.floats.specs.declared.Function.{Function}
use Rattle.recurrence.specs.Recurrence.{own_rung_two}
use Rattle.slots.specs.Slots.{slot}
use Rattle.tables.specs.Tables.{value_of, derivative_of, values_written, table_after, answer}

-- a request that is not refused, with l the table before it
pub record Slots (fn : Function) (v x : Float) (l : List Float) : Type 0 where
  pub same_length : length (table_after fn v x l) ≡ length l
  -- written: values 0 to n at the slots 0 to n, derivatives 0 to n − 1 at num to num + n − 1
  pub values : (k : ℕ) → k ≤ top_rung v → slot (table_after fn v x l) k ≡ value_of fn v x k
  pub derivatives : (k : ℕ) → k < top_rung v → slot (table_after fn v x l) (num v + k) ≡ derivative_of fn v x k
  -- and value 2 where V has it at n = 1
  pub own_two : own_rung_two fn (below v) (fraction_of v) ≡ true → top_rung v ≡ 1
      → slot (table_after fn v x l) 2 ≡ value_of fn v x 2
  -- all others are as found
  pub others : (k : ℕ) → values_written fn v ≤ k → (k < num v) ⊎ (num v + top_rung v ≤ k)
      → slot (table_after fn v x l) k ≡ slot l k
  -- the answer is slot n − 1 of both columns
  pub answered : answer fn v x (length l)
      ≡ some (slot (table_after fn v x l) (top_rung v - 1), slot (table_after fn v x l) (num v + (top_rung v - 1)))

-- a request that is refused
pub record Untouched (fn : Function) (v x : Float) (l : List Float) : Type 0 where
  pub as_found : table_after fn v x l ≡ l
  pub no_pair : answer fn v x (length l) ≡ none
