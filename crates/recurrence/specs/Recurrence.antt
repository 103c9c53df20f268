-- The recurrences of D and V (01, "Upward, downward, scaled"; the source's pbdv_impl and pbvv_impl; DLMF 12.8), each
-- operation rounded.
-- Rung k has the order f + k on the side v ≥ 0 and f − k below 0, where `below` is true. DLMF's U(a, x) and V(a, x)
-- have a = −order − ½; D is U.
-- In each formula `low` and `high` are the values of two neighbouring rungs, `low` that of the lower number.
use Rattle.std.specs.Prelude.{ℕ, Bool, true, false, ◌&&◌, cond, eqb, Float}
use Rattle.std.specs.Float.Ieee.{neg, eq}
use Rattle.floats.specs.Operations.{◌⊕◌, ◌⊖◌, ◌⊗◌, ◌⊘◌, whole, f0, f1, f2}
use Rattle.floats.specs.declared.Function.{Function}
use Rattle.floats.specs.declared.Function.TheVariants.{D, «V»}
pub mod Open
pub mod Examples

-- ---- upward

-- rung k from rungs k − 2 and k − 1
pub step : Function → Bool → Float → Float → ℕ → Float → Float → Float
-- 12.8.1 at rung k − 1, a + ½ = −(f + k − 1)
step D false x f k low high = x ⊗ high ⊖ (whole k ⊕ f ⊖ f1) ⊗ low
-- 12.8.1 at rung k − 1, a + ½ = k − 1 − f
step D true x f k low high = (neg x ⊗ high ⊕ low) ⊘ (whole k ⊖ f1 ⊖ f)
-- 12.8.5 at rung k − 1, a − ½ = −(f + k)
step «V» false x f k low high = (x ⊗ high ⊖ low) ⊘ (whole k ⊕ f)
-- 12.8.5 at rung k − 1, a − ½ = k − f − 2
step «V» true x f k low high = x ⊗ high ⊕ (whole k ⊖ f ⊖ f2) ⊗ low

-- V below 0, at f = 0: rung 1 is 12.7.3's at n = 0, and rung 2, x times rung 1, is the one at n = 1 and no step
pub own_rung_two : Function → Bool → Float → Bool
own_rung_two D below f = false
own_rung_two «V» false f = false
own_rung_two «V» true f = eq f f0

-- rung k of a forward branch: its own formula at 2 where it has one, and else a step
pub next_rung : Function → Bool → Float → Float → ℕ → Float → Float → Float
next_rung fn below x f k low high = cond (own_rung_two fn below f && eqb k 2) (x ⊗ high) (step fn below x f k low high)

-- ---- downward: D below 0, V from 0 on

-- rung k from rungs k + 1 and k + 2
pub step_down : Function → Float → Float → ℕ → Float → Float → Float
-- 12.8.1 at rung k + 1, a + ½ = k + 1 − f
step_down D x f k low high = x ⊗ low ⊕ (whole k ⊖ f ⊕ f1) ⊗ high
-- 12.8.5 at rung k + 1, a − ½ = −(k + f + 2)
step_down «V» x f k low high = x ⊗ low ⊖ (whole k ⊕ f ⊕ f2) ⊗ high
