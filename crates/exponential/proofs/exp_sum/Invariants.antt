-- What the turns that are left make of p is the sum.
use Rattle.std.proofs.Common.{◌≡◌, ◌-◌}
use Rattle.floats.specs.Loops.{down_to}
use Rattle.exponential.specs.Exponential.{exp_term, exp_sum}
use Rattle.exponential.proofs.exp_sum.Given as goal

abbrev pub invariant-loop-j : goal.invariant-loop-j
invariant-loop-j l = down_to (exp_term l.r) l.last (l.j - l.last) l.p ≡ exp_sum l.r l.last
