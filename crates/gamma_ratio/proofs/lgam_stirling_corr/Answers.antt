-- `gamma_ratio::lgam_stirling_corr` meets its contract, by that of the polynomial.
use Rattle.gamma_ratio.specs.GammaRatio.Open.{correction_is}
use Rattle.gamma_ratio.proofs.lgam_stirling_corr.Goals as goal

pub returns : goal.returns
returns c = rw (correction_is, c.polevl.ensures)
