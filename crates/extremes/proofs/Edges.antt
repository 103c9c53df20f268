-- What 01 says of minimum and maximum, as theorems about the definitions.
use Rattle.std.proofs.Common.{◌≡◌, refl}
use Rattle.std.specs.Float.{Float, nan, inf, fin}
use Rattle.std.specs.Float.Ieee.{neg, lt, is_nan, of_bits}
use Rattle.floats.specs.Operations.{f0, f1}
use Rattle.extremes.specs.Extremes.{lesser, greater}

-- "Minimum and maximum give the other operand where one is NaN."
pub other_operand : (a : Float) → (lesser nan a ≡ a) × (lesser a nan ≡ a) × (greater nan a ≡ a) × (greater a nan ≡ a)
unfolding lesser greater is_nan lt
other_operand nan = (refl, refl, refl, refl)
other_operand (inf s) = (refl, refl, refl, refl)
other_operand (fin s m e) = (refl, refl, refl, refl)

-- At the edges, by computing: minimum and maximum of 0 and 1, and the first of equal operands.
pub edges : (lesser f1 f0 ≡ f0) × (greater f0 f1 ≡ f1) × (lesser f0 (neg f0) ≡ f0) × (greater (neg f0) f0 ≡ neg f0)
unfolding lesser greater is_nan lt neg of_bits
edges = (refl, refl, refl, refl)
