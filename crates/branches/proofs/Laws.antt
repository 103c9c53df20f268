-- What the crates above may know of the branches beside the contracts: which run forward, and that a higher order does so too.
use Rattle.std.proofs.Common.{arith, ◌≡◌, sym, ap, ◌∙◌, ℕ, ◌≤◌, Bool, true, false}
use Rattle.std.specs.Float.Ieee.{Float, lt}
use Rattle.floats.specs.Operations.{◌⊕◌, ◌⊗◌, whole, f½}
use Rattle.order.specs.Facts.{Split}
use Rattle.order.proofs.Laws.{joined_above, stays_above}
use Rattle.floats.specs.declared.Function.{Function}
use Rattle.floats.specs.declared.Function.TheVariants.{D, «V»}
use Rattle.recurrence.specs.Recurrence.{own_rung_two}
use Rattle.recurrence.proofs.Laws.{own_rung_two_D, own_rung_two_V_above}
use Rattle.branches.specs.declared.Branch.TheVariants.{Forward, Scaled}
use Rattle.branches.specs.Constants.{f7·5}
use Rattle.branches.specs.Branches.{branch_of, runs_forward}
use Rattle.branches.specs.Branches.Open.{laws, branch_of_D_above, branch_of_D_below, branch_of_V_below, is_forward-Forward, runs_forward_is}

-- D from order 0 on, and V below 0
pub D_forward : (x u : Float) → branch_of D false x u ≡ Forward
D_forward x u = branch_of_D_above x u

pub V_forward : (x u : Float) → branch_of «V» true x u ≡ Forward
V_forward x u = branch_of_V_below x u

-- a branch with its own rung 2 runs forward
pub own_forward : (fn : Function) (below : Bool) (x u f : Float) → own_rung_two fn below f ≡ true → branch_of fn below x u ≡ Forward
own_forward D below x u f e = let none = own_rung_two_D below f in cc
own_forward «V» false x u f e = let none = own_rung_two_V_above f in cc
own_forward «V» true x u f e = branch_of_V_below x u

-- V's scaled branch is at x > 7.5 only
pub V_scaled : (below : Bool) (x u : Float) → branch_of «V» below x u ≡ Scaled → lt f7·5 x ≡ true
V_scaled true x u e = let forward = branch_of_V_below x u in cc
V_scaled false x u e = grind (arith, laws)

module _ (fn : Function) (s : Bool) (x u : Float) where
  -- what the test says
  pub forward_branch : runs_forward fn s x u ≡ true → branch_of fn s x u ≡ Forward
  forward_branch e = grind (arith, laws)

  pub forward_runs : branch_of fn s x u ≡ Forward → runs_forward fn s x u ≡ true
  forward_runs e = rw (runs_forward_is fn s x u, e, is_forward-Forward)

-- below 0 no branch asks for u
pub below_same : (fn : Function) (x u u' : Float) → branch_of fn true x u ≡ branch_of fn true x u'
below_same D x u u' = branch_of_D_below x u ∙ sym (branch_of_D_below x u')
below_same «V» x u u' = branch_of_V_below x u ∙ sym (branch_of_V_below x u')

-- a held order's u is n + f: the test on it is the one on u
pub forward_held : {s : Bool} {u f : Float} {n m : ℕ} (fn : Function) (x : Float) → Split s u f n m → runs_forward fn s x (whole n ⊕ f) ≡ runs_forward fn s x u
forward_held {s = false} fn x facts = ap (runs_forward fn false x) (joined_above facts)
forward_held {s = true} {u = u} {f = f} {n = n} fn x facts = let same = below_same fn x (whole n ⊕ f) u in grind (arith, laws)

-- what runs forward at n does so at a higher n
pub forward_higher : {s : Bool} {u u' f : Float} {n n' m m' : ℕ} (fn : Function) (x : Float) → Split s u f n m → Split s u' f n' m' → n ≤ n'
    → branch_of fn s x u ≡ Forward → branch_of fn s x u' ≡ Forward
forward_higher {s = false} {u' = u'} D x a b h e = branch_of_D_above x u'
forward_higher {s = false} {u = u} {u' = u'} «V» x a b h e = let up = stays_above (f½ ⊗ x ⊗ x) a b h in grind (arith, laws)
forward_higher {s = true} {u = u} {u' = u'} fn x a b h e = below_same fn x u' u ∙ e
