-- What each of the two definitions is, case by case. Only this crate's proofs cite these laws.
use Rattle.std.specs.Prelude.{◌≡◌, true, false, Float}
use Rattle.std.specs.Float.Ieee.{eq, neg}
use Rattle.floats.specs.Operations.{◌⊗◌, f0, f½}
use Rattle.trigonometric.specs.QuarterTurns.{order_sine}
use Rattle.gamma.specs.Gamma.{gamma2}
use Rattle.start_sums_small.specs.SmallSums.{ep, dvsa_at_zero, dvsa_sum, dvsa_factor, dvsa, vvsa_at_zero, vvsa_first}
use Rattle.start_sums_small.specs.SmallSums.{vvsa_sum, vvsa_factor, vvsa}

-- ---- dvsa

pub dvsa_order_zero : (x va : Float) → eq va f0 ≡ true → dvsa x va ≡ ep x
unfolding dvsa
dvsa_order_zero x va o = rw o

pub dvsa_at_zero_law : (x va : Float) → eq va f0 ≡ false → eq x f0 ≡ true → dvsa x va ≡ dvsa_at_zero va
unfolding dvsa
dvsa_at_zero_law x va o a = rw (o, a)

pub dvsa_series : (x va : Float) → eq va f0 ≡ false → eq x f0 ≡ false
    → dvsa x va ≡ (dvsa_sum x va (gamma2 (neg f½ ⊗ va))).1 ⊗ dvsa_factor x va
unfolding dvsa
dvsa_series x va o a = rw (o, a)

pub ruleset dvsa_cases = (dvsa_order_zero, dvsa_at_zero_law, dvsa_series)

-- ---- vvsa

pub vvsa_at_zero_law : (x va : Float) → eq x f0 ≡ true → vvsa x va ≡ vvsa_at_zero va
unfolding vvsa
vvsa_at_zero_law x va a = rw a

pub vvsa_series : (x va : Float) → eq x f0 ≡ false
    → vvsa x va ≡ (vvsa_sum x va (order_sine va) (vvsa_first va)).2 ⊗ vvsa_factor x va
unfolding vvsa
vvsa_series x va a = rw a

pub ruleset vvsa_cases = (vvsa_at_zero_law, vvsa_series)
