-- The values of a table in the source's own text (pbdv_impl, pbvv_impl), also where the definitions have another form.
-- After its line `v += ..` the source's v is `shifted v`; its nv is `whole_part v`, its v0 `fraction_of v`, its na
-- `top_rung v`.
use Rattle.std.specs.Prelude.{◌≡◌, ◌≢◌, Bool, true, false, not, cond, ℕ, ◌+◌, ◌-◌, ◌≤◌, pos, Float}
use Rattle.std.specs.Float.Ieee.{neg, lt, le, eq, to_signed}
use Rattle.floats.specs.Operations.{◌⊕◌, ◌⊖◌, ◌⊗◌, ◌⊘◌, float, whole, decimal, f0, f1}
use Rattle.signs.specs.Signs.{absolute}
use Rattle.exponential.specs.Exponential.{exp}
use Rattle.start_sums_small.specs.SmallSums.{dvsa, vvsa}
use Rattle.start_sums_large.specs.StartSums.{dvla, vvla}
use Rattle.floats.specs.declared.Function.{Function}
use Rattle.floats.specs.declared.Function.TheVariants.{D, «V»}
use Rattle.order.specs.Order.{below, shifted, whole_part, fraction_of, top_rung}
use Rattle.order.specs.Facts.{InRange}
use Rattle.recurrence.specs.Recurrence.{step, own_rung_two, step_down}
use Rattle.derivatives.specs.Derivatives.{derivative}
use Rattle.branches.specs.declared.Branch.TheVariants.{Forward, Downward, Scaled}
use Rattle.branches.specs.Branches.{branch_of}
use Rattle.order.specs.declared.Sequence.{Sequence}
use Rattle.rungs.specs.Rungs.{start_value, next_order, start_rungs, rung, top_rungs, downward_rung}
use Rattle.rungs.specs.Rungs.{seed, raw_rung, scaled_rung}
use Rattle.rungs.specs.ColumnValues.{value, derivative_at}

abbrev pub sequence : Function → Bool → Float → Float → Sequence
sequence fn s x f = record { function = fn; below = s; x = x; f = f }

-- ---- for an order v

-- the side, which the source asks of the shifted order
pub record SideOfShifted (v : Float) : Type 0 where
  -- pbdv_impl, `if v >= 0.0`
  pub up : le f0 (shifted v) ≡ not (below v)
  -- pbvv_impl, `if v <= 0.0`
  pub down : le (shifted v) f0 ≡ below v

-- the orders of rungs 0 and 1 where the source has a loop for them, `for l in 0..=ja`
pub record StartLoops (v : Float) : Type 0 where
  -- `if na >= 1 { ja = 1; }`
  pub turns : 1 ≤ top_rung v
  -- pbdv_impl, from order 0 on: `let v1 = v0 + f64::from(l);`
  pub up : (fraction_of v ⊕ whole 0 ≡ fraction_of v) × (fraction_of v ⊕ whole 1 ≡ next_order false (fraction_of v))
  -- pbvv_impl, below 0: `let v1 = v0 - f64::from(l);`
  pub down : (fraction_of v ⊖ whole 0 ≡ fraction_of v) × (fraction_of v ⊖ whole 1 ≡ next_order true (fraction_of v))

-- rungs n − 1 and n of D's downward branch, below 0: `let mut v2 = f64::from(nv) + v0;`
abbrev pub top_of_d : Float → Float
top_of_d v = float (whole_part v) ⊕ fraction_of v

pub record TopOfD (v x : Float) : Type 0 where
  -- `if nv == 0 { v2 -= 1.0; }` is never taken
  pub kept : whole_part v ≢ pos 0
  -- `let nk = (-v2) as i32;`
  pub slot : to_signed 31 (neg (top_of_d v)) ≡ pos (top_rung v)
  -- slot nk: `dvsa(x, v2)`; slot nk − 1: `let v1 = v2 + 1.0;`, `dvsa(x, v1)`
  pub rungs : top_rungs (sequence D (below v) x (fraction_of v)) (shifted v) (top_rung v)
      ≡ (dvsa x (top_of_d v ⊕ f1), dvsa x (top_of_d v))

-- rungs n − 1 and n of V's downward branch, from 0 on: `let mut v2 = v;`
pub record TopOfV (v x : Float) : Type 0 where
  -- `if v2 < 1.0 { v2 += 1.0; }` is never taken
  pub kept : lt (shifted v) f1 ≡ false
  -- `let kv = v2 as i32;`
  pub slot : to_signed 31 (shifted v) ≡ pos (top_rung v)
  -- slot kv: `vvsa(x, v2)`; slot kv − 1: `let v1 = v2 - 1.0;`, `vvsa(x, v1)`
  pub rungs : top_rungs (sequence «V» (below v) x (fraction_of v)) (shifted v) (top_rung v)
      ≡ (vvsa x (shifted v ⊖ f1), vvsa x (shifted v))

-- ---- start values and start rungs, for any sequence

-- the start sum by the size of x
pub record StartValues (s : Bool) (x f va : Float) : Type 0 where
  -- pbdv_impl, `if xa <= 5.8 { .. dvsa(x, va) .. } else { .. dvla(x, va) .. }`
  pub d : start_value (sequence D s x f) va ≡ cond (le (absolute x) (decimal 58 1)) (dvsa x va) (dvla x va)
  -- pbvv_impl, `if xa <= 7.5 { .. vvsa(x, va) .. } else { .. vvla(x, va) .. }`
  pub v : start_value (sequence «V» s x f) va ≡ cond (le (absolute x) (decimal 75 1)) (vvsa x va) (vvla x va)
  -- the same where V is scaled, `let pv0 = vvla(x, v0);`, without the test
  pub v_scaled : (u : Float) → branch_of «V» s x u ≡ Scaled → start_value (sequence «V» s x f) va ≡ vvla x va

-- rungs 0 and 1 by start values at two orders
abbrev pub started_at : Sequence → Float → Float → Float × Float
started_at r va va' = (start_value r va, start_value r va')

-- rungs 0 and 1 where the branch runs forward
pub record StartRungs (x f : Float) : Type 0 where
  -- pbdv_impl from order 0 on: `ep = (-0.25 * x * x).exp()`, `if v0 == 0.0 { pd0 = ep; pd1 = x * ep; }`, else a loop
  pub d_gaussian : eq f f0 ≡ true
      → let ep = exp (neg (decimal 25 2) ⊗ x ⊗ x) in start_rungs (sequence D false x f) ≡ (ep, x ⊗ ep)
  pub d_up : eq f f0 ≡ false → let r = sequence D false x f in start_rungs r ≡ started_at r f (f ⊕ f1)
  -- below 0, `let v1 = v0 - 1.0;`
  pub d_down : let r = sequence D true x f in start_rungs r ≡ started_at r f (f ⊖ f1)
  -- pbvv_impl below 0: `qe = (0.25 * x * x).exp()`, `if v0 == 0.0 { .. f0 = q2p * qe; .. }`, else a loop
  pub v_own : eq f f0 ≡ true
      → let r = sequence «V» true x f in
      start_rungs r ≡ (start_value r f, decimal 7978845608028654 16 ⊗ exp (decimal 25 2 ⊗ x ⊗ x))
  pub v_down : eq f f0 ≡ false → let r = sequence «V» true x f in start_rungs r ≡ started_at r f (f ⊖ f1)
  -- from 0 on, `let v1 = v0 + 1.0;`
  pub v_up : let r = sequence «V» false x f in start_rungs r ≡ started_at r f (f ⊕ f1)

-- ---- the columns of each branch, for any sequence

-- `for k in 2..=na`, with `kv = 3` where pbvv_impl has `f1 = x * f0` at v0 == 0.0
pub record ForwardColumn (r : Sequence) : Type 0 where
  pub first : (rung r 0, rung r 1) ≡ start_rungs r
  pub own_two : own_rung_two r.function r.below r.f ≡ true → rung r 2 ≡ r.x ⊗ rung r 1
  pub two : own_rung_two r.function r.below r.f ≡ false
      → rung r 2 ≡ step r.function r.below r.x r.f 2 (rung r 0) (rung r 1)
  pub each : (k : ℕ) → 3 ≤ k
      → rung r k ≡ step r.function r.below r.x r.f k (rung r (k - 2)) (rung r (k - 1))

-- `buf[dv(nk)] = f1; buf[dv(nk - 1)] = f0; for k in (0..=nk - 2).rev()`
pub record DownwardColumn (r : Sequence) (u : Float) (n : ℕ) : Type 0 where
  pub top : (downward_rung r u n (n - 1), downward_rung r u n n) ≡ top_rungs r u n
  pub each : (k : ℕ) → k + 2 ≤ n
      → let value = downward_rung r u n in
      value k ≡ step_down r.function r.x r.f k (value (k + 1)) (value (k + 2))

-- 01's "start at 100 + n and scale": with `m = 100 + na` the source's f0 and f1 are rungs m + 1 and m + 2
pub record ScaledColumn (r : Sequence) (n : ℕ) : Type 0 where
  -- pbdv_impl, `f0 = 1e-30`; pbvv_impl, `f0 = 1.0e-40`
  pub low : raw_rung r n (n + 101) ≡ seed r.function
  -- `f1 = 0.0`
  pub high : raw_rung r n (n + 102) ≡ f0
  -- `for k in (0..=m).rev()`: the first turn, and each
  pub first : raw_rung r n (n + 100) ≡ step_down r.function r.x r.f (n + 100) (seed r.function) f0
  pub each : (k : ℕ) → k ≤ n + 100
      → raw_rung r n k ≡ step_down r.function r.x r.f k (raw_rung r n (k + 1)) (raw_rung r n (k + 2))
  -- `let s0 = pd0 / f;`, `buf[dv(k)] *= s0;`
  pub scaled : (k : ℕ) → scaled_rung r n k ≡ raw_rung r n k ⊗ (start_value r r.f ⊘ raw_rung r n 0)

-- which of the three a table's values are, and each derivative
pub record Columns (r : Sequence) (u : Float) (n : ℕ) : Type 0 where
  pub forward : branch_of r.function r.below r.x u ≡ Forward → value r u n ≡ rung r
  pub downward : branch_of r.function r.below r.x u ≡ Downward → value r u n ≡ downward_rung r u n
  pub scaled : branch_of r.function r.below r.x u ≡ Scaled → value r u n ≡ scaled_rung r n
  pub derivatives : (k : ℕ)
      → derivative_at r u n k
      ≡ derivative r.function r.below r.x r.f k (value r u n k) (value r u n (k + 1))

-- ---- the claim (proofs/Source.antt): an order is one that refusals 1 and 2 let pass

pub record AsSource : Type 0 where
  pub side : (v : Float) → InRange v → SideOfShifted v
  pub start_loops : (v : Float) → InRange v → StartLoops v
  pub top_of_d_law : (v x : Float) → InRange v → below v ≡ true → TopOfD v x
  pub top_of_v : (v x : Float) → InRange v → below v ≡ false → TopOfV v x
  pub start_values : (s : Bool) (x f va : Float) → StartValues s x f va
  pub start_rungs_law : (x f : Float) → StartRungs x f
  pub forward_column : (r : Sequence) → ForwardColumn r
  pub downward_column : (r : Sequence) (u : Float) (n : ℕ) → 1 ≤ n → DownwardColumn r u n
  pub scaled_column : (r : Sequence) (n : ℕ) → ScaledColumn r n
  pub columns : (r : Sequence) (u : Float) (n : ℕ) → Columns r u n
