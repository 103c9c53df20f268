-- `roots::root_pattern` meets its contract, by the scale that the exponent's parity gives.
use Rattle.roots.proofs.RootScale.{parity_scale, pattern_at_scale}
use Rattle.roots.proofs.root_pattern.Goals as goal

pub returns : goal.returns
returns c = pattern_at_scale _ _ _ _ (parity_scale _ _ _ c.from_pattern-s.ensures) c.nearest_root.ensures
