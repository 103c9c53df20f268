-- `gamma::reciprocal_series` meets its contract: from the highest power down it is the recursion of the definition.
use Rattle.floats.specs.Polynomials.{polevl_from, polevl}
use Rattle.gamma.specs.Gamma.{polynomial, reciprocal_series}
use Rattle.gamma.proofs.reciprocal_series.Goals as goal

pub returns : goal.returns
unfolding polevl_from polevl polynomial reciprocal_series
returns c = rw c.polevl.ensures
