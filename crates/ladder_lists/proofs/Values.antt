-- 01's examples, from the values that the lower crates computed.
use Rattle.std.proofs.Common.{refl, replicate}
use Rattle.std.specs.Float.Ieee.{is_nan, of_bits}
use Rattle.floats.specs.Operations.{f0, f0_is, f1_is, f2_is}
use Rattle.exponential.proofs.Laws.{exp_zero}
use Rattle.gamma.specs.Constants.{pole_value_is}
use Rattle.gamma.proofs.Laws.{gamma2_five, gamma2_minus_three}
use Rattle.start_sums_small.proofs.Laws.{dvsa_zero_one, dvsa_zero_zero}
use Rattle.start_sums_large.specs.Constants.{root_two_over_pi_is}
use Rattle.order.specs.Order.{f1000_is}
use Rattle.tables.proofs.Values.{P5, P6, P7, P7_table, P8, P9, P10, P12}
use Rattle.ladder_lists.specs.Examples.{examples, Examples}
use Rattle.ladder_lists.proofs.OneLadder.{shows}

pub examples_hold : Examples
unfolding Examples examples is_nan of_bits
examples_hold =
    rw (
      exp_zero,
      gamma2_five,
      gamma2_minus_three,
      dvsa_zero_one,
      dvsa_zero_zero,
      P5.0,
      P5.1,
      P5.2,
      P6,
      P7,
      P7_table f0 f0 f0 f0 f0 f0 f0 f0 f0 f0,
      P8,
      ← f1000_is,
      P9 f0 2006 refl,
      (P10 f0 refl).0,
      (P10 f0 refl).1,
      shows (replicate 6 f0) (replicate 5 f0) refl refl,
      P12.0,
      P12.1,
      ← f0_is,
      ← f1_is,
      ← f2_is,
      ← pole_value_is,
      ← root_two_over_pi_is,
    )
