use Rattle.std.proofs.Common.{◌-◌}
use Rattle.roots.proofs.RootDigits.{Found}
use Rattle.roots.proofs.digits.root_digits.Given as goal

abbrev pub invariant-loop : goal.invariant-loop
invariant-loop l = Found l.fn.radicand.value l.s.rest l.s.root l.s.remainder (53 - l.counter)
