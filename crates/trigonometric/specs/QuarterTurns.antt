-- 01, "Slips": "a sine at whole quarter turns not exactly ±1, which lets 1e300 into V". Here the sine is exactly 1 or
-- −1.
use Rattle.std.specs.Prelude.{◌≡◌, cond, ◌%◌, ◌≤◌, eqb, ℤ, nat_abs, Float}
use Rattle.std.specs.Float.Ieee.{neg}
use Rattle.floats.specs.Operations.{◌⊕◌, ◌⊗◌, float, f½, f1, pi}
use Rattle.trigonometric.specs.Trigonometric.{sin}

-- the sine that the source's `vvsa` takes at the order va: `(-(va + 0.5) * PI).sin()`
abbrev pub order_sine : Float → Float
order_sine va = sin (neg (va ⊕ f½) ⊗ pi)

-- for whole orders of size up to 1002 it is −1 where the order is even and 1 where it is odd
abbrev pub QuarterTurns : Type 0
QuarterTurns = (va : ℤ) → nat_abs va ≤ 1002 → order_sine (float va) ≡ cond (eqb (nat_abs va % 2) 0) (neg f1) f1
