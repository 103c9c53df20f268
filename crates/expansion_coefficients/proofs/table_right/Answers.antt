-- `expansion_coefficients::table_right` meets its contract, by the theorem.
use Rattle.expansion_coefficients.proofs.Rule.{table_right}
use Rattle.expansion_coefficients.proofs.table_right.Goals as goal

pub returns : goal.returns
returns c = table_right
