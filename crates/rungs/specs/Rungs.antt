-- The rungs of D and V (01, "Upward, downward, scaled"; the source's pbdv_impl and pbvv_impl), each operation rounded.
-- The steps are of `recurrence`.
-- Rung k has the order f + k on the side v ≥ 0 and f − k below 0, where `below` is true. DLMF's U(a, x) and V(a, x)
-- have a = −order − ½; D is U.
-- A `Sequence` says which rungs: the function, the side, the argument x and the fraction f. The values of two
-- neighbouring rungs are a pair, that of the lower number first.
use Rattle.std.specs.Prelude.{ℕ, ◌+◌, ◌-◌, Bool, true, false, cond, Float}
use Rattle.std.specs.Float.Ieee.{neg, le, eq}
use Rattle.floats.specs.Operations.{◌⊕◌, ◌⊖◌, ◌⊗◌, ◌⊘◌, whole, f0, f1, f¼}
use Rattle.signs.specs.Signs.{absolute}
use Rattle.exponential.specs.Exponential.{exp}
use Rattle.start_sums_large.specs.Constants.{root_two_over_pi}
use Rattle.start_sums_small.specs.SmallSums.{dvsa, vvsa}
use Rattle.start_sums_large.specs.StartSums.{dvla, vvla}
use Rattle.floats.specs.declared.Function.{Function}
use Rattle.floats.specs.declared.Function.TheVariants.{D, «V»}
use Rattle.recurrence.specs.Recurrence.{own_rung_two, next_rung, step_down}
use Rattle.recurrence.specs.ThreeTerm.{continued}
use Rattle.branches.specs.Constants.{f7·5}
use Rattle.order.specs.declared.Sequence.{Sequence}
use Rattle.rungs.specs.Constants.{f5·8, seed_d, seed_v}
pub mod Open
pub mod Examples

-- ---- upward

-- the start sums, for large arguments or for small ones. No other definition of tables and ladder cites them.
pub start_sum : Function → Bool → Float → Float → Float
start_sum D false x va = dvsa x va
start_sum D true x va = dvla x va
start_sum «V» false x va = vvsa x va
start_sum «V» true x va = vvla x va

-- up to this size an argument is small
pub small_limit : Function → Float
small_limit D = f5·8
small_limit «V» = f7·5

-- the start sum for an argument of this size (the source's `xa <= 5.8` and `xa <= 7.5`)
pub start_value : Sequence → Float → Float
start_value r va =
    cond (le (absolute r.x) (small_limit r.function))
    (start_sum r.function false r.x va)
    (start_sum r.function true r.x va)

-- e^(−x²/4), which is D of order 0 (12.7.1), and e^(x²/4)
pub gaussian : Float → Float
gaussian x = exp (neg f¼ ⊗ x ⊗ x)

pub growth : Float → Float
growth x = exp (f¼ ⊗ x ⊗ x)

-- D from order 0 on, at f = 0: rungs 0 and 1 are 12.7.2's at n = 0 and 1
pub starts_gaussian : Function → Bool → Float → Bool
starts_gaussian D false f = eq f f0
starts_gaussian D true f = false
starts_gaussian «V» below f = false

-- the order of rung 1
pub next_order : Bool → Float → Float
next_order false f = f ⊕ f1
next_order true f = f ⊖ f1

-- rungs 0 and 1
pub start_rungs : Sequence → Float × Float
start_rungs r =
    cond (starts_gaussian r.function r.below r.f) (gaussian r.x, r.x ⊗ gaussian r.x)
    (cond (own_rung_two r.function r.below r.f)
    (start_value r r.f, root_two_over_pi ⊗ growth r.x)
    (start_value r r.f, start_value r (next_order r.below r.f)))

-- rung k of the forward branches, from rungs 0 and 1 on: a sequence that knows no n
pub rung : Sequence → ℕ → Float
rung r = continued (λ i. next_rung r.function r.below r.x r.f (i + 2)) (start_rungs r).0 (start_rungs r).1

-- ---- downward: D below 0, V from 0 on

-- rung k, from `low` and `high` at top and top + 1 down: term j of the sequence is rung top + 1 − j
pub descent : Sequence → ℕ → Float → Float → ℕ → Float
descent r top low high k =
    continued (λ j b a. step_down r.function r.x r.f (top - 1 - j) a b) high low (top + 1 - k)

-- the orders of rungs n − 1 and n. D's is N + f, N being −n, and V's is u.
pub top_orders : Function → Float → Float → ℕ → Float × Float
top_orders D u f n = (neg (whole n) ⊕ f ⊕ f1, neg (whole n) ⊕ f)
top_orders «V» u f n = (u ⊖ f1, u)

-- rungs n − 1 and n, by the start sums for small arguments
pub top_rungs : Sequence → Float → ℕ → Float × Float
top_rungs r u n =
    let orders = top_orders r.function u r.f n in
    (start_sum r.function false r.x orders.0, start_sum r.function false r.x orders.1)

-- rung k below them
pub downward_rung : Sequence → Float → ℕ → ℕ → Float
downward_rung r u n = descent r (n - 1) (top_rungs r u n).0 (top_rungs r u n).1

-- ---- scaled: downward from 100 + n, with 0 and a seed in the place of the two rungs above

-- the source's 1e-30 for D and 1e-40 for V
pub seed : Function → Float
seed D = seed_d
seed «V» = seed_v

-- rung k before the scaling: the seed stands at n + 101 and 0 at n + 102
pub raw_rung : Sequence → ℕ → ℕ → Float
raw_rung r n = descent r (n + 101) (seed r.function) f0

-- each raw rung is multiplied by what rung 0 is by its start sum, divided by raw rung 0
pub scaled_rung : Sequence → ℕ → ℕ → Float
scaled_rung r n k = raw_rung r n k ⊗ (start_value r r.f ⊘ raw_rung r n 0)
