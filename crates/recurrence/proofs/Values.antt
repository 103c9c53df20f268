-- V's own rung 2 below 0 at f = 0, as a law for the crates above.
use Rattle.std.proofs.Common.{◌≡◌, true}
use Rattle.std.specs.Float.Ieee.{eq, of_bits}
use Rattle.floats.specs.Operations.{f0}
use Rattle.floats.specs.declared.Function.TheVariants.{«V»}
use Rattle.recurrence.specs.Recurrence.{own_rung_two}
use Rattle.recurrence.specs.Recurrence.Open.{own_rung_two_V_below}

-- ---- V below 0

pub V_own_two : own_rung_two «V» true f0 ≡ true
unfolding eq of_bits
V_own_two = own_rung_two_V_below f0
