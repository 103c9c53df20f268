-- `expansion_polynomials::uv_sums` meets its contract: the rows of v_s stand 86 entries after those of u_s.
use Rattle.std.proofs.Common.{sym, ◌∙◌}
use Rattle.expansion_coefficients.specs.Table.{coefficients, start, u_row, v_row}
use Rattle.expansion_polynomials.specs.Polynomials.{summed}
use Rattle.expansion_polynomials.specs.Polynomials.Open.{u_sum_law, v_sum_law}
use Rattle.expansion_polynomials.proofs.uv_sums.Goals as goal

pub returns : goal.returns
unfolding coefficients start u_row v_row summed
returns c = record { u = c.row_sum.ensures ∙ sym (u_sum_law _ _); v = c.row_sum-2.ensures ∙ sym (v_sum_law _ _) }
