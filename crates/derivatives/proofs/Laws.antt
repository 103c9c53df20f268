-- What the crates above may know of the derivatives beside the contract: the cases of the definition that `rungs` and
-- `table_mirror` go on from.
use Rattle.std.proofs.Common.{ℕ, Bool, true, false, T}
use Rattle.std.specs.Float.{binary64}
use Rattle.std.specs.Float.Ieee.{Float, fits}
use Rattle.std.specs.Float.Ieee.Fits.{add-fits, sub-fits}
use Rattle.floats.specs.declared.Function.{Function}
use Rattle.floats.specs.declared.Function.TheVariants.{D, «V»}
use Rattle.derivatives.specs.Derivatives.{derivative}
use Rattle.derivatives.specs.Derivatives.Open.{derivative_D_below, derivative_V_above}
pub use Rattle.derivatives.specs.Derivatives.Open.{derivative_D_above, derivative_V_below}

-- a derivative is an f64, whatever the two values are
pub derivative_fits : (fn : Function) (below : Bool) (x f : Float) (k : ℕ) (low high : Float) → T (fits binary64 (derivative fn below x f k low high))
derivative_fits D false x f k low high = rw (derivative_D_above x f k low high) (sub-fits binary64 _ _)
derivative_fits D true x f k low high = rw (derivative_D_below x f k low high) (sub-fits binary64 _ _)
derivative_fits «V» false x f k low high = rw (derivative_V_above x f k low high) (sub-fits binary64 _ _)
derivative_fits «V» true x f k low high = rw (derivative_V_below x f k low high) (add-fits binary64 _ _)
