-- `gamma_ratio::ln_gamma_ratio` meets its contract, by those of its two parts.
use Rattle.gamma_ratio.specs.GammaRatio.Open.{ratio_is}
use Rattle.gamma_ratio.proofs.ln_gamma_ratio.Goals as goal

pub returns : goal.returns
returns c = rw (ratio_is, c.lgam_stirling_corr.ensures, c.log1pmx.ensures)
