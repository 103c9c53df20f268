-- The derivatives of D and V (01, "Upward, downward, scaled"; the source's pbdv_impl and pbvv_impl; DLMF 12.8), each
-- operation rounded. The rungs, and what `low` and `high` are, are recurrence's specs/Recurrence.antt.
use Rattle.std.specs.Prelude.{ℕ, Bool, true, false, Float}
use Rattle.std.specs.Float.Ieee.{neg}
use Rattle.floats.specs.Operations.{◌⊕◌, ◌⊖◌, ◌⊗◌, whole, f½, f1}
use Rattle.signs.specs.Signs.{absolute}
use Rattle.floats.specs.declared.Function.{Function}
use Rattle.floats.specs.declared.Function.TheVariants.{D, «V»}
pub mod Open
pub mod Examples

-- the derivative of rung k, from rungs k and k + 1
pub derivative : Function → Bool → Float → Float → ℕ → Float → Float → Float
-- 12.8.3
derivative D false x f k low high = f½ ⊗ x ⊗ low ⊖ high
-- 12.8.2, a + ½ = k − f, and f is not above 0
derivative D true x f k low high = neg f½ ⊗ x ⊗ low ⊖ (absolute f ⊕ whole k) ⊗ high
-- 12.8.6, a − ½ = −(f + k + 1)
derivative «V» false x f k low high = f½ ⊗ x ⊗ low ⊖ (f ⊕ whole k ⊕ f1) ⊗ high
-- 12.8.7
derivative «V» true x f k low high = neg f½ ⊗ x ⊗ low ⊕ high
