-- The branches in the words of 01 ("Upward, downward, scaled") and of the source. `branch_of` is the source's chain of
-- tests.
use Rattle.std.specs.Prelude.{◌≡◌, Bool, true, false, not, ◌&&◌, cond, Float}
use Rattle.std.specs.Float.{nan}
use Rattle.std.specs.Float.Ieee.{lt, le, is_nan}
use Rattle.floats.specs.Operations.{◌⊗◌, decimal}
use Rattle.signs.specs.Signs.{absolute}
use Rattle.floats.specs.declared.Function.{Function}
use Rattle.floats.specs.declared.Function.TheVariants.{D, «V»}
use Rattle.branches.specs.declared.Branch.{Branch}
use Rattle.branches.specs.declared.Branch.TheVariants.{Forward, Downward, Scaled}
use Rattle.branches.specs.Branches.{branch_of, runs_forward}

-- "size of x ≤ 10 and u ≤ 0.5·x·x"
unfoldable pub low_by01 : Float → Float → Bool
low_by01 x u = le (absolute x) (decimal 10 0) && le u (decimal 5 1 ⊗ x ⊗ x)

-- "Forward branches: D with v ≥ 0; D with v < 0 and x ≤ 0; V with v < 0;
-- V with v ≥ 0, x < 0 and not (size of x ≤ 10 and u ≤ 0.5·x·x)."
unfoldable pub forward_by01 : Function → Bool → Float → Float → Bool
forward_by01 D false x u = true
forward_by01 D true x u = le x (decimal 0 0)
forward_by01 «V» true x u = true
forward_by01 «V» false x u = lt x (decimal 0 0) && not (low_by01 x u)

-- "All others run downward or start at 100 + n and scale." The source scales D with v < 0 where x > 2 (the last `else`
-- of pbdv_impl), and V with v ≥ 0 where x > 7.5 and the order is not low (`else if x > 7.5` of pbvv_impl).
unfoldable pub scaled_by_source : Function → Bool → Float → Float → Bool
scaled_by_source D false x u = false
scaled_by_source D true x u = lt (decimal 2 0) x
scaled_by_source «V» true x u = false
scaled_by_source «V» false x u = lt (decimal 75 1) x && not (low_by01 x u)

unfoldable pub branch_by01 : Function → Bool → Float → Float → Branch
branch_by01 fn below x u = cond (forward_by01 fn below x u) Forward (cond (scaled_by_source fn below x u) Scaled Downward)

-- both are the same (proofs/As01.antt)
pub record BranchesAs01 : Type 0 where
  pub branch : (fn : Function) (below : Bool) (x u : Float) → is_nan x ≡ false
      → branch_of fn below x u ≡ branch_by01 fn below x u
  pub forward : (fn : Function) (below : Bool) (x u : Float) → is_nan x ≡ false
      → runs_forward fn below x u ≡ forward_by01 fn below x u
  -- a NaN, which refusal 1 keeps out, passes no test: the chain ends forward, and x < 0 fails
  pub at_nan : (u : Float) → (runs_forward «V» false nan u ≡ true) × (forward_by01 «V» false nan u ≡ false)
