-- The branches of a table (01, "Upward, downward, scaled"; the tests of the source's pbdv_impl and pbvv_impl). u is the
-- request's own shifted order.
use Rattle.std.specs.Prelude.{Bool, true, false, ◌&&◌, ◌||◌, cond, Float}
use Rattle.std.specs.Float.Ieee.{lt, le}
use Rattle.floats.specs.Operations.{◌⊗◌, f0, f½, f2}
use Rattle.signs.specs.Signs.{absolute}
use Rattle.floats.specs.declared.Function.{Function}
use Rattle.floats.specs.declared.Function.TheVariants.{D, «V»}
use Rattle.branches.specs.declared.Branch.{Branch}
use Rattle.branches.specs.declared.Branch.TheVariants.{Forward, Downward, Scaled}
use Rattle.branches.specs.Constants.{f7·5, f10}
pub mod Open
pub mod Examples

-- the size of x is at most 10, and u at most x²/2
pub order_is_low : Float → Float → Bool
order_is_low x u = le (absolute x) f10 && le u (f½ ⊗ x ⊗ x)

-- V from order 0 on: 0 ≤ x ≤ 7.5, or the order is low
pub runs_down : Float → Float → Bool
runs_down x u = le f0 x && le x f7·5 || order_is_low x u

-- the source's chain of tests; 01's words are in As01.antt
pub branch_of : Function → Bool → Float → Float → Branch
branch_of D false x u = Forward
branch_of D true x u = cond (le x f0) Forward (cond (le x f2) Downward Scaled)
branch_of «V» false x u = cond (runs_down x u) Downward (cond (lt f7·5 x) Scaled Forward)
branch_of «V» true x u = Forward

-- whether the branch runs forward
pub is_forward : Branch → Bool
is_forward Forward = true
is_forward Downward = false
is_forward Scaled = false

pub runs_forward : Function → Bool → Float → Float → Bool
runs_forward fn below x u = is_forward (branch_of fn below x u)
