-- Every rung of a forward branch is an f64.
use Rattle.std.proofs.Common.{ℕ, zero, suc, ◌+◌, Bool, true, false, cond, T, Float}
use Rattle.std.specs.Float.{binary64}
use Rattle.std.specs.Float.Ieee.{fits}
use Rattle.std.specs.Float.Ieee.Fits.{cond-fits, mul-fits}
use Rattle.floats.specs.Operations.{◌⊗◌}
use Rattle.exponential.proofs.Laws.{exp_fits}
use Rattle.start_sums_small.proofs.Laws.{dvsa_fits, vvsa_fits}
use Rattle.start_sums_large.proofs.Laws.{dvla_fits, vvla_fits}
use Rattle.start_sums_large.specs.Constants.{root_two_over_pi}
use Rattle.floats.specs.declared.Function.{Function}
use Rattle.floats.specs.declared.Function.TheVariants.{D, «V»}
use Rattle.recurrence.specs.Recurrence.{own_rung_two}
use Rattle.recurrence.proofs.Laws.{next_rung_fits}
use Rattle.order.specs.declared.Sequence.{Sequence}
use Rattle.rungs.specs.Rungs.{start_sum, start_value, gaussian, growth, starts_gaussian, next_order, start_rungs, rung}
use Rattle.rungs.specs.Rungs.Open.{start_sum_D_small, start_sum_D_large, start_sum_V_small, start_sum_V_large, start_value_is, gaussian_is, start_rungs_is}
use Rattle.rungs.proofs.Laws.{rungs_zero_one, rung_next}

start_sum_fits : (fn : Function) (large : Bool) (x va : Float) → T (fits binary64 (start_sum fn large x va))
start_sum_fits D false x va = rw (start_sum_D_small x va) (dvsa_fits x va)
start_sum_fits D true x va = rw (start_sum_D_large x va) (dvla_fits x va)
start_sum_fits «V» false x va = rw (start_sum_V_small x va) (vvsa_fits x va)
start_sum_fits «V» true x va = rw (start_sum_V_large x va) (vvla_fits x va)

module _ (r : Sequence) where
  start_value_fits : (va : Float) → T (fits binary64 (start_value r va))
  start_value_fits va =
      rw (start_value_is r va) (cond-fits binary64 _ _ _ (start_sum_fits r.function false r.x va) (start_sum_fits r.function true r.x va))

  gaussian_fits : T (fits binary64 (gaussian r.x))
  gaussian_fits = rw (gaussian_is r.x) (exp_fits _ (mul-fits binary64 _ _))

  pub start_rungs_fit : T (fits binary64 (start_rungs r).0) × T (fits binary64 (start_rungs r).1)
  start_rungs_fit = rw (start_rungs_is r) (go (starts_gaussian r.function r.below r.f) (own_rung_two r.function r.below r.f))
    where
      go : (a b : Bool)
          → let p : Float × Float =
          cond a (gaussian r.x, r.x ⊗ gaussian r.x)
          (cond b (start_value r r.f, root_two_over_pi ⊗ growth r.x) (start_value r r.f, start_value r (next_order r.below r.f))) in
          T (fits binary64 p.0) × T (fits binary64 p.1)
      go true b = (gaussian_fits, mul-fits binary64 _ _)
      go false true = (start_value_fits r.f, mul-fits binary64 _ _)
      go false false = (start_value_fits r.f, start_value_fits (next_order r.below r.f))

  pub rung_fits : (k : ℕ) → T (fits binary64 (rung r k))
  rung_fits zero = rw (rungs_zero_one r) at start_rungs_fit.0
  rung_fits (suc zero) = rw (rungs_zero_one r) at start_rungs_fit.1
  rung_fits (suc (suc k)) = rw (← rung_next r k) (next_rung_fits r.function r.below r.x r.f (k + 2) (rung r k) (rung r (suc k)))
