-- `roots::digits::nearest_by_digits` meets its contract: the remainder says on which side of the middle the root lies.
use Rattle.std.proofs.Common.{arith}
use Rattle.roots.proofs.RootRounding.{is_root, nearest_above, nearest_below}
use Rattle.roots.proofs.digits.nearest_by_digits.Goals as goal

pub returns-then-d : goal.returns-then-d
returns-then-d c = nearest_above _ _ (omega arith) (omega arith) (is_root _ _ _ c.root_digits-d.ensures) (omega arith)

pub returns-else-d : goal.returns-else-d
returns-else-d c = nearest_below _ _ (omega arith) (omega arith) (is_root _ _ _ c.root_digits-d.ensures) (omega arith)
