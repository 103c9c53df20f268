-- The falling number of each call: 1 where x is negative, 0 otherwise.
use Rattle.start_sums_large.specs.StartSums.{falling_number}
use Rattle.start_sums_large.proofs.+dvla_vvla.Given as goal

abbrev pub decreases-dvla : goal.decreases-dvla
decreases-dvla l = falling_number l.x

abbrev pub decreases-vvla : goal.decreases-vvla
decreases-vvla l = falling_number l.x
