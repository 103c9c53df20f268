-- What the turns that are left make of a is the sum.
use Rattle.std.proofs.Common.{◌≡◌, ◌-◌}
use Rattle.floats.specs.Loops.{down_to}
use Rattle.trigonometric.specs.Trigonometric.{trig_term, trig_sum}
use Rattle.trigonometric.proofs.trig_sum.Given as goal

abbrev pub invariant-loop-j : goal.invariant-loop-j
invariant-loop-j l = down_to (trig_term l.less l.z) 1 (l.j - 1) l.a ≡ trig_sum l.less l.z
