-- `roots::square_root` meets its contract: the root's pattern is no NaN's.
use Rattle.roots.proofs.RootPatterns.{root_no_nan}
use Rattle.roots.proofs.square_root.Goals as goal

pub float_from_bits-result : goal.float_from_bits-result
float_from_bits-result c = root_no_nan _ _ c.root_pattern.ensures
