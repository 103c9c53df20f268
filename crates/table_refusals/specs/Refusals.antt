-- The refusals of tables and ladder (01, "A request comes in"). Whether a table is too short is the caller's own test.
use Rattle.std.specs.Prelude.{ℕ, Bool, ◌||◌, cond, Float}
use Rattle.std.specs.Float.Ieee.{is_nan}
use Rattle.order.specs.Order.{too_large}
pub mod Open

-- by rising number: a NaN, the size of v, a table that is too short
pub refusal_by : Float → Float → Bool → ℕ
refusal_by v x short = cond (is_nan v || is_nan x) 1 (cond (too_large v) 2 (cond short 3 0))
