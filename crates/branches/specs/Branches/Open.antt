-- What each definition is, case by case, for the proofs of this crate. No other crate cites this module.
use Rattle.std.specs.Prelude.{◌≡◌, refl, Bool, true, false, ◌&&◌, ◌||◌, cond, Float}
use Rattle.std.specs.Float.Ieee.{lt, le}
use Rattle.floats.specs.Operations.{◌⊗◌, f0, f½, f2}
use Rattle.signs.specs.Signs.{absolute}
use Rattle.floats.specs.declared.Function.{Function}
use Rattle.floats.specs.declared.Function.TheVariants.{D, «V»}
use Rattle.branches.specs.declared.Branch.TheVariants.{Forward, Downward, Scaled}
use Rattle.branches.specs.Constants.{f7·5, f10}
use Rattle.branches.specs.Branches.{order_is_low, runs_down, branch_of, is_forward, runs_forward}

pub order_is_low_is : (x : Float) (u : Float) → order_is_low x u ≡ (le (absolute x) f10 && le u (f½ ⊗ x ⊗ x))
unfolding order_is_low
order_is_low_is x u = refl

pub runs_down_is : (x : Float) (u : Float) → runs_down x u ≡ (le f0 x && le x f7·5 || order_is_low x u)
unfolding runs_down
runs_down_is x u = refl

pub branch_of_D_above : (x : Float) (u : Float) → branch_of D false x u ≡ Forward
unfolding branch_of
branch_of_D_above x u = refl

pub branch_of_D_below : (x : Float) (u : Float)
    → branch_of D true x u ≡ cond (le x f0) Forward (cond (le x f2) Downward Scaled)
unfolding branch_of
branch_of_D_below x u = refl

pub branch_of_V_above : (x : Float) (u : Float)
    → branch_of «V» false x u ≡ cond (runs_down x u) Downward (cond (lt f7·5 x) Scaled Forward)
unfolding branch_of
branch_of_V_above x u = refl

pub branch_of_V_below : (x : Float) (u : Float) → branch_of «V» true x u ≡ Forward
unfolding branch_of
branch_of_V_below x u = refl

pub is_forward-Forward : is_forward Forward ≡ true
unfolding is_forward
is_forward-Forward = refl

pub is_forward-Downward : is_forward Downward ≡ false
unfolding is_forward
is_forward-Downward = refl

pub is_forward-Scaled : is_forward Scaled ≡ false
unfolding is_forward
is_forward-Scaled = refl

pub runs_forward_is : (fn : Function) (below : Bool) (x : Float) (u : Float)
    → runs_forward fn below x u ≡ is_forward (branch_of fn below x u)
unfolding runs_forward
runs_forward_is fn below x u = refl

pub ruleset laws = (
  order_is_low_is,
  runs_down_is,
  branch_of_D_above,
  branch_of_D_below,
  branch_of_V_above,
  branch_of_V_below,
  is_forward-Forward,
  is_forward-Downward,
  is_forward-Scaled,
  runs_forward_is,
)
