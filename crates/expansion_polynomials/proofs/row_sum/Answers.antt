-- `expansion_polynomials::row_sum` meets its contract: eleven turns, each with its row.
use Rattle.expansion_coefficients.specs.Table.{start}
use Rattle.expansion_polynomials.specs.Polynomials.{summed}
use Rattle.expansion_polynomials.proofs.row_sum.Goals as goal

pub returns : goal.returns
unfolding summed start
returns c =
    rw (
      c.uv_poly.ensures,
      c.uv_poly-2.ensures,
      c.uv_poly-3.ensures,
      c.uv_poly-4.ensures,
      c.uv_poly-5.ensures,
      c.uv_poly-6.ensures,
      c.uv_poly-7.ensures,
      c.uv_poly-8.ensures,
      c.uv_poly-9.ensures,
      c.uv_poly-10.ensures,
      c.uv_poly-11.ensures,
    )
