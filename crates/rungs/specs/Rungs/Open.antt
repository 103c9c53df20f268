-- What each definition is, case by case, for the proofs of this crate. No other crate cites this module.
use Rattle.std.specs.Prelude.{◌≡◌, refl, ℕ, ◌+◌, ◌-◌, Bool, true, false, cond, Float}
use Rattle.std.specs.Float.Ieee.{neg, le, eq}
use Rattle.floats.specs.Operations.{◌⊕◌, ◌⊖◌, ◌⊗◌, ◌⊘◌, whole, f0, f1, f¼}
use Rattle.signs.specs.Signs.{absolute}
use Rattle.exponential.specs.Exponential.{exp}
use Rattle.start_sums_large.specs.Constants.{root_two_over_pi}
use Rattle.start_sums_small.specs.SmallSums.{dvsa, vvsa}
use Rattle.start_sums_large.specs.StartSums.{dvla, vvla}
use Rattle.floats.specs.declared.Function.TheVariants.{D, «V»}
use Rattle.recurrence.specs.Recurrence.{own_rung_two, next_rung, step_down}
use Rattle.recurrence.specs.ThreeTerm.{continued}
use Rattle.branches.specs.Constants.{f7·5}
use Rattle.order.specs.declared.Sequence.{Sequence}
use Rattle.rungs.specs.Constants.{f5·8, seed_d, seed_v}
use Rattle.rungs.specs.Rungs.{start_sum, small_limit, start_value, gaussian, growth, starts_gaussian, next_order}
use Rattle.rungs.specs.Rungs.{start_rungs, rung}
use Rattle.rungs.specs.Rungs.{descent, top_orders, top_rungs, downward_rung, seed, raw_rung, scaled_rung}

pub start_sum_D_small : (x : Float) (va : Float) → start_sum D false x va ≡ dvsa x va
unfolding start_sum
start_sum_D_small x va = refl

pub start_sum_D_large : (x : Float) (va : Float) → start_sum D true x va ≡ dvla x va
unfolding start_sum
start_sum_D_large x va = refl

pub start_sum_V_small : (x : Float) (va : Float) → start_sum «V» false x va ≡ vvsa x va
unfolding start_sum
start_sum_V_small x va = refl

pub start_sum_V_large : (x : Float) (va : Float) → start_sum «V» true x va ≡ vvla x va
unfolding start_sum
start_sum_V_large x va = refl

pub small_limit_D : small_limit D ≡ f5·8
unfolding small_limit
small_limit_D = refl

pub small_limit_V : small_limit «V» ≡ f7·5
unfolding small_limit
small_limit_V = refl

pub start_value_is : (r : Sequence) (va : Float)
    → start_value r va
    ≡ cond (le (absolute r.x) (small_limit r.function))
    (start_sum r.function false r.x va)
    (start_sum r.function true r.x va)
unfolding start_value
start_value_is r va = refl

pub gaussian_is : (x : Float) → gaussian x ≡ exp (neg f¼ ⊗ x ⊗ x)
unfolding gaussian
gaussian_is x = refl

pub growth_is : (x : Float) → growth x ≡ exp (f¼ ⊗ x ⊗ x)
unfolding growth
growth_is x = refl

pub starts_gaussian_D_above : (f : Float) → starts_gaussian D false f ≡ eq f f0
unfolding starts_gaussian
starts_gaussian_D_above f = refl

pub starts_gaussian_D_below : (f : Float) → starts_gaussian D true f ≡ false
unfolding starts_gaussian
starts_gaussian_D_below f = refl

pub starts_gaussian_V : (below : Bool) (f : Float) → starts_gaussian «V» below f ≡ false
unfolding starts_gaussian
starts_gaussian_V below f = refl

pub next_order_above : (f : Float) → next_order false f ≡ f ⊕ f1
unfolding next_order
next_order_above f = refl

pub next_order_below : (f : Float) → next_order true f ≡ f ⊖ f1
unfolding next_order
next_order_below f = refl

pub start_rungs_is : (r : Sequence)
    → start_rungs r
    ≡ cond (starts_gaussian r.function r.below r.f) (gaussian r.x, r.x ⊗ gaussian r.x)
    (cond (own_rung_two r.function r.below r.f)
    (start_value r r.f, root_two_over_pi ⊗ growth r.x)
    (start_value r r.f, start_value r (next_order r.below r.f)))
unfolding start_rungs
start_rungs_is r = refl

pub rung_is : (r : Sequence)
    → rung r
    ≡ continued (λ i. next_rung r.function r.below r.x r.f (i + 2)) (start_rungs r).0 (start_rungs r).1
unfolding rung
rung_is r = refl

pub descent_is : (r : Sequence) (top : ℕ) (low high : Float) (k : ℕ)
    → descent r top low high k
    ≡ continued (λ j b a. step_down r.function r.x r.f (top - 1 - j) a b) high low (top + 1 - k)
unfolding descent
descent_is r top low high k = refl

pub top_orders_D : (u f : Float) (n : ℕ) → top_orders D u f n ≡ (neg (whole n) ⊕ f ⊕ f1, neg (whole n) ⊕ f)
unfolding top_orders
top_orders_D u f n = refl

pub top_orders_V : (u f : Float) (n : ℕ) → top_orders «V» u f n ≡ (u ⊖ f1, u)
unfolding top_orders
top_orders_V u f n = refl

pub top_rungs_is : (r : Sequence) (u : Float) (n : ℕ)
    → top_rungs r u n
    ≡ (let orders = top_orders r.function u r.f n in
    (start_sum r.function false r.x orders.0, start_sum r.function false r.x orders.1))
unfolding top_rungs
top_rungs_is r u n = refl

pub downward_rung_is : (r : Sequence) (u : Float) (n : ℕ)
    → downward_rung r u n ≡ descent r (n - 1) (top_rungs r u n).0 (top_rungs r u n).1
unfolding downward_rung
downward_rung_is r u n = refl

pub seed_D : seed D ≡ seed_d
unfolding seed
seed_D = refl

pub seed_V : seed «V» ≡ seed_v
unfolding seed
seed_V = refl

pub raw_rung_is : (r : Sequence) (n : ℕ) → raw_rung r n ≡ descent r (n + 101) (seed r.function) f0
unfolding raw_rung
raw_rung_is r n = refl

pub scaled_rung_is : (r : Sequence) (n k : ℕ) → scaled_rung r n k ≡ raw_rung r n k ⊗ (start_value r r.f ⊘ raw_rung r n 0)
unfolding scaled_rung
scaled_rung_is r n k = refl

pub ruleset start_laws = (
  start_sum_D_small,
  start_sum_D_large,
  start_sum_V_small,
  start_sum_V_large,
  small_limit_D,
  small_limit_V,
  start_value_is,
  gaussian_is,
  growth_is,
  starts_gaussian_D_above,
  starts_gaussian_D_below,
  starts_gaussian_V,
  next_order_above,
  next_order_below,
  start_rungs_is,
  top_orders_D,
  top_orders_V,
  top_rungs_is,
  seed_D,
  seed_V,
)
