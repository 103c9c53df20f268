-- What the turns that are left make of a is the sum.
use Rattle.std.proofs.Common.{◌≡◌, ◌-◌}
use Rattle.floats.specs.Loops.{down_to}
use Rattle.logarithm.specs.Logarithm.{ln_term, ln_sum}
use Rattle.logarithm.proofs.ln_sum.Given as goal

abbrev pub invariant-loop-j : goal.invariant-loop-j
invariant-loop-j l = down_to (ln_term l.z) 0 (l.j - 0) l.a ≡ ln_sum l.z
