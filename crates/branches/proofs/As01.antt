-- The source's chain of tests is what 01 and the source say of each branch.
use Rattle.std.proofs.Common.{arith, ◌≡◌, refl, sym, ap, ◌∙◌, subst, Bool, true, false, not, T}
use Rattle.std.specs.Float.Ieee.{Float, nan, lt, le, is_nan, of_bits}
use Rattle.std.specs.Float.Ieee.Bits.{is_true}
use Rattle.std.proofs.lemmas.Float.{le_left, le_right, le_of_lt, le_trans}
use Rattle.floats.specs.Operations.{decimal, f0, f2}
use Rattle.floats.proofs.Comparison.{float_lt_total}
use Rattle.signs.specs.Signs.{absolute}
use Rattle.floats.specs.declared.Function.{Function}
use Rattle.floats.specs.declared.Function.TheVariants.{D, «V»}
use Rattle.branches.specs.Constants.{f7·5}
use Rattle.branches.specs.Branches.{branch_of, runs_forward}
use Rattle.branches.specs.Branches.Open.{laws, branch_of_D_above, branch_of_V_above, branch_of_V_below, is_forward-Forward, order_is_low_is, runs_down_is, runs_forward_is}
use Rattle.branches.specs.As01.{low_by01, forward_by01, scaled_by_source, branch_by01, BranchesAs01}

f2_number : T (not (is_nan f2))
unfolding is_nan of_bits
f2_number = tt

f0_le_f7·5 : T (le f0 f7·5)
unfolding le of_bits
f0_le_f7·5 = tt

f0_number : T (not (is_nan f0))
f0_number = le_left f0 f7·5 f0_le_f7·5

f7·5_number : T (not (is_nan f7·5))
f7·5_number = le_right f0 f7·5 f0_le_f7·5

module _ (x : Float) (number : T (not (is_nan x))) where
  -- what is not 0 or above is at most 7.5
  at_most : le f0 x ≡ false → le x f7·5 ≡ true
  at_most h =
      let s : T (lt x f0) = subst T (sym (float_lt_total x f0 number f0_number ∙ ap not h)) tt in
      is_true (le x f7·5) (le_trans x f0 f7·5 (le_of_lt x f0 s) f0_le_f7·5)

  as_01 : (fn : Function) (below : Bool) (u : Float) → branch_of fn below x u ≡ branch_by01 fn below x u
  unfolding branch_by01 forward_by01 scaled_by_source low_by01 decimal of_bits
  as_01 D false u = branch_of_D_above x u
  as_01 D true u = let over_2 = float_lt_total f2 x f2_number number in grind (arith, laws)
  as_01 «V» true u = branch_of_V_below x u
  as_01 «V» false u =
      let below_0 = float_lt_total x f0 number f0_number in
      let over_7·5 = float_lt_total f7·5 x f7·5_number number in
      let most = at_most in
      grind (arith, laws)

chain_at_nan : (u : Float) → runs_forward «V» false nan u ≡ true
unfolding lt le absolute of_bits
chain_at_nan u = rw (runs_forward_is «V» false nan u, branch_of_V_above nan u, runs_down_is nan u, order_is_low_is nan u) is_forward-Forward

words_at_nan : (u : Float) → forward_by01 «V» false nan u ≡ false
unfolding forward_by01 lt
words_at_nan u = refl

module _ (fn : Function) (below : Bool) (x u : Float) (number : is_nan x ≡ false) where
  branch_as_01 : branch_of fn below x u ≡ branch_by01 fn below x u
  branch_as_01 = as_01 x (subst (λ (b : Bool). T (not b)) (sym number) tt) fn below u

  forward_as_01 : runs_forward fn below x u ≡ forward_by01 fn below x u
  unfolding branch_by01
  forward_as_01 = let same = branch_as_01 in grind (arith, laws)

pub branches_as_01 : BranchesAs01
branches_as_01 = record {
  branch = branch_as_01;
  forward = forward_as_01;
  at_nan = λ u. (chain_at_nan u, words_at_nan u);
}
