-- The constants as fractions: their digits over a power of two.
use Rattle.std.proofs.Common.{refl, false, ◌^◌}
use Rattle.std.specs.Float.Ieee.{of_bits}
use Rattle.std.specs.Float.Ieee.Exact.{HasValue}
use Rattle.floats.specs.Operations.{f1, pi}
use Rattle.trigonometric.specs.Constants.{two_over_pi, half_pi_high, half_pi_low}

pub one_value : HasValue f1 false 1 1
unfolding of_bits
one_value = (refl, refl)

pub pi_value : HasValue pi false 884279719003555 (2 ^ 48)
unfolding of_bits
pi_value = (refl, refl)

pub two_over_pi_value : HasValue two_over_pi false 5734161139222659 (2 ^ 53)
unfolding of_bits
two_over_pi_value = (refl, refl)

pub half_pi_high_value : HasValue half_pi_high false 1686629713 (2 ^ 30)
unfolding of_bits
half_pi_high_value = (refl, refl)

pub half_pi_low_value : HasValue half_pi_low false 4701928774853425 (2 ^ 86)
unfolding of_bits
half_pi_low_value = (refl, refl)
