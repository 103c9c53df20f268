-- What the definitions are. Only this crate's proofs cite these laws.
use Rattle.std.specs.Prelude.{◌≡◌, refl, Float}
use Rattle.floats.specs.Operations.{◌⊕◌, ◌⊗◌, ◌⊘◌, f½, f1}
use Rattle.floats.specs.Polynomials.{polevl}
use Rattle.gamma_ratio.specs.Constants.{gamma_a}
use Rattle.gamma_ratio.specs.GammaRatio.{log1pmx_sum, log1pmx, lgam_stirling_corr, ln_gamma_ratio}

pub log1pmx_is : (w : Float) → log1pmx w ≡ (log1pmx_sum w).1
unfolding log1pmx
log1pmx_is w = refl

pub correction_is : (x : Float) → lgam_stirling_corr x ≡ polevl gamma_a (f1 ⊘ (x ⊗ x)) ⊘ x
unfolding lgam_stirling_corr
correction_is x = refl

pub ratio_is : (z : Float) → ln_gamma_ratio z ≡ z ⊗ log1pmx (f½ ⊘ z) ⊕ lgam_stirling_corr (z ⊕ f½)
unfolding ln_gamma_ratio
ratio_is z = refl
