-- `roots::digits::root_digits` meets its contract. The loop's invariant is `Found`: the digits that are left, at their scale.
use Rattle.std.proofs.Common.{arith}
use Rattle.roots.proofs.RootDigits.{partial, found_turn, found_all}
use Rattle.roots.proofs.digits.root_digits.Goals as goal

pub next_digit-s-requires : goal.next_digit-s-requires
next_digit-s-requires c = partial _ _ _ _ _ (omega arith) c.loop.invariant

pub loop-preserved : goal.loop-preserved
loop-preserved c = found_turn _ _ _ _ _ _ _ _ c.loop-test.true c.loop.invariant c.next_digit-s.ensures

pub returns : goal.returns
returns c = found_all _ _ _ _ _ (omega arith) c.loop.invariant
