-- What the crates above may know of the recurrences beside the contracts; passed on are the cases of the definitions that
-- `rungs` and `table_mirror` go on from.
use Rattle.std.proofs.Common.{◌≡◌, ℕ, Bool, true, false, ◌&&◌, eqb, T}
use Rattle.std.specs.Float.{binary64}
use Rattle.std.specs.Float.Ieee.{Float, fits}
use Rattle.std.specs.Float.Ieee.Fits.{cond-fits, add-fits, sub-fits, mul-fits, div-fits}
use Rattle.floats.specs.declared.Function.{Function}
use Rattle.floats.specs.declared.Function.TheVariants.{D, «V»}
use Rattle.recurrence.specs.Recurrence.{step, own_rung_two, next_rung}
use Rattle.recurrence.specs.Recurrence.Open.{step_D_below, step_V_above, step_V_below}
pub use Rattle.recurrence.specs.Recurrence.Open.{step_D_above, own_rung_two_D, own_rung_two_V_above, own_rung_two_V_below, next_rung_is}

-- D has no rung 2 of its own
pub no_own_two : (below : Bool) (f : Float) → own_rung_two D below f ≡ false
no_own_two below f = own_rung_two_D below f

-- ---- a rung is an f64, whatever the two below it are

pub step_fits : (fn : Function) (below : Bool) (x f : Float) (k : ℕ) (low high : Float) → T (fits binary64 (step fn below x f k low high))
step_fits D false x f k low high = rw (step_D_above x f k low high) (sub-fits binary64 _ _)
step_fits D true x f k low high = rw (step_D_below x f k low high) (div-fits binary64 _ _)
step_fits «V» false x f k low high = rw (step_V_above x f k low high) (div-fits binary64 _ _)
step_fits «V» true x f k low high = rw (step_V_below x f k low high) (add-fits binary64 _ _)

pub next_rung_fits : (fn : Function) (below : Bool) (x f : Float) (k : ℕ) (low high : Float) → T (fits binary64 (next_rung fn below x f k low high))
next_rung_fits fn below x f k low high =
    rw (next_rung_is fn below x f k low high) (cond-fits binary64 (own_rung_two fn below f && eqb k 2) _ _ (mul-fits binary64 _ _) (step_fits fn below x f k low high))
