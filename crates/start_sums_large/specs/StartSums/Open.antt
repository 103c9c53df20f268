-- What each of the two definitions is, case by case. Only this crate's proofs cite these laws.
use Rattle.std.specs.Prelude.{◌≡◌, true, false, Float}
use Rattle.std.specs.Float.Ieee.{lt, neg}
use Rattle.floats.specs.Operations.{f0}
use Rattle.signs.proofs.Signs.{negated_not_below}
use Rattle.start_sums_large.specs.StartSums.{dvla_expansion, dvla_joined, dvla, vvla_expansion, vvla_joined, vvla}

pub dvla_above : (x va : Float) → lt x f0 ≡ false → dvla x va ≡ dvla_expansion x va
unfolding dvla
dvla_above x va n = rw n

pub vvla_above : (x va : Float) → lt x f0 ≡ false → vvla x va ≡ vvla_expansion x va
unfolding vvla
vvla_above x va n = rw n

-- below 0, with the call of the other one that the source has
pub dvla_below : (x va : Float) → lt x f0 ≡ true → dvla x va ≡ dvla_joined va (dvla_expansion x va) (vvla (neg x) va)
unfolding dvla vvla
dvla_below x va n = rw (n, negated_not_below x n)

pub vvla_below : (x va : Float) → lt x f0 ≡ true → vvla x va ≡ vvla_joined va (vvla_expansion x va) (dvla (neg x) va)
unfolding dvla vvla
vvla_below x va n = rw (n, negated_not_below x n)

pub ruleset dvla_cases = (dvla_above, dvla_below)

pub ruleset vvla_cases = (vvla_above, vvla_below)
