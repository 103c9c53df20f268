-- `roots::from_subnormal` meets its contract: the zeros before the leading digit say how far to move it.
use Rattle.std.proofs.Common.{refl}
use Rattle.roots.proofs.RootNormal.{moved_up}
use Rattle.roots.proofs.from_subnormal.Goals as goal

pub invariant_of-result : goal.invariant_of-result
invariant_of-result c = let m = moved_up _ _ c.requires.0 c.requires.1 refl in record { in_range = (m.least, m.most) }

pub returns : goal.returns
returns c = moved_up _ _ c.requires.0 c.requires.1 c.from.ensures
