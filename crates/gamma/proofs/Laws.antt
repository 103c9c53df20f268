-- What the crates above may know of gamma2 beside its contract.
use Rattle.std.proofs.Common.{◌≡◌, refl, ap, ◌∙◌, pos, lit≤, Float}
use Rattle.std.specs.Float.{nan}
use Rattle.std.specs.Float.Ieee.{add, sub, mul, div, neg, lt, eq, of_bits, of_int, to_signed}
use Rattle.floats.proofs.Examples.{entry_of}
use Rattle.floats.specs.Operations.{◌⊗◌, ◌⊘◌, bits, decimal, pi}
use Rattle.signs.specs.Signs.{absolute, infinite}
use Rattle.truncation.specs.Truncation.{truncated, fraction}
use Rattle.floats.specs.Loops.{count_up}
use Rattle.trigonometric.proofs.QuarterTurns.{quarter_turns}
use Rattle.gamma.specs.Constants.{pole_value}
use Rattle.gamma.specs.Gamma.{product_turn, falling, polynomial, reciprocal_series, gamma_near, gamma_above, gamma2}
use Rattle.gamma.specs.Gamma.Open.{gamma2_below}
use Rattle.gamma.specs.Gamma.Examples.{examples_hold}

-- ---- values from the list of examples, by their place in it

-- P2
pub gamma2_five : gamma2 (decimal 5 0) ≡ decimal 24 0
gamma2_five = entry_of examples_hold 0 nan

-- P3
pub gamma2_minus_three : gamma2 (neg (decimal 3 0)) ≡ pole_value
gamma2_minus_three = entry_of examples_hold 5 nan

-- ---- a value with an elementary function in it

-- a reflection: at −1.5 the sine is 1
abbrev below : Float
below = neg (decimal 15 1)

pub gamma2_reflected : gamma2 below ≡ bits 0x4002_e7fb_0bcd_f4f2
unfolding product_turn falling polynomial reciprocal_series gamma_near gamma_above absolute infinite truncated fraction count_up
    add sub mul div neg lt eq of_bits decimal of_int to_signed
gamma2_reflected =
    gamma2_below below refl refl refl ∙ ap (λ (s : Float). neg pi ⊘ (below ⊗ gamma_above (absolute below) ⊗ s)) (quarter_turns (pos 1) (lit≤ tt))
