-- Whether a branch runs forward, by the branch.
use Rattle.std.proofs.Common.{◌≡◌, Bool, true, false, Float}
use Rattle.floats.specs.declared.Function.{Function}
use Rattle.branches.specs.declared.Branch.TheVariants.{Forward, Downward, Scaled}
use Rattle.branches.specs.Branches.{branch_of, runs_forward}
use Rattle.branches.specs.Branches.Open.{is_forward-Forward, is_forward-Downward, is_forward-Scaled, runs_forward_is}

module _ (fn : Function) (s : Bool) (x u : Float) where
  pub is_forward_law : branch_of fn s x u ≡ Forward → true ≡ runs_forward fn s x u
  is_forward_law e = rw (runs_forward_is fn s x u, e, is_forward-Forward)

  pub is_downward : branch_of fn s x u ≡ Downward → false ≡ runs_forward fn s x u
  is_downward e = rw (runs_forward_is fn s x u, e, is_forward-Downward)

  pub is_scaled_law : branch_of fn s x u ≡ Scaled → false ≡ runs_forward fn s x u
  is_scaled_law e = rw (runs_forward_is fn s x u, e, is_forward-Scaled)
