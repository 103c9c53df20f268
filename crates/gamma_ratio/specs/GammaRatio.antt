-- 01, "Off the ladder's path": log1pmx, `lgam_stirling_corr` (src/xsf/cephes/gamma.rs) and `ln_gamma_ratio`
-- (src/xsf/par_cyl.rs). Each step is one rounded operation, left to right. The definitions are shut to other crates.
pub mod Open
pub mod Examples
use Rattle.std.specs.Prelude.{false, ℕ, Float}
use Rattle.std.specs.Float.Ieee.{lt, neg}
use Rattle.floats.specs.Operations.{◌⊕◌, ◌⊗◌, ◌⊘◌, whole, f0, f½, f1}
use Rattle.signs.specs.Signs.{absolute}
use Rattle.floats.specs.Loops.{Turn, count_up}
use Rattle.floats.specs.Polynomials.{polevl}
use Rattle.gamma_ratio.specs.Constants.{epsilon, gamma_a}

-- "c = c·(−w), term c/i, added, stopping when |term| < 1.1102230246251565e-16·|sum|": c and the sum
unfoldable pub log1pmx_turn : Float → ℕ → Float × Float → Turn (Float × Float)
log1pmx_turn w i (c, s) =
    let t = c ⊗ neg w ⊘ whole i in
    (lt (absolute t) (epsilon ⊗ absolute (s ⊕ t)), (c ⊗ neg w, s ⊕ t))

-- "c = w, sum 0; for i = 2 to 499"
unfoldable pub log1pmx_sum : Float → Float × Float
log1pmx_sum w = count_up (log1pmx_turn w) 498 2 (false, (w, f0))

-- ln(1 + w) − w
pub log1pmx : Float → Float
log1pmx w = (log1pmx_sum w).1

-- "let p = 1.0 / (x * x); polevl(p, &GAMMA_A) / x". The source's other branch, below 13, is never reached
-- (`stirling_argument_law`, expansion's proofs/Range.antt).
pub lgam_stirling_corr : Float → Float
lgam_stirling_corr x = polevl gamma_a (f1 ⊘ (x ⊗ x)) ⊘ x

-- "z * log1pmx(0.5 / z) + lgam_stirling_corr(z + 0.5)" (DLMF 12.10.16)
pub ln_gamma_ratio : Float → Float
ln_gamma_ratio z = z ⊗ log1pmx (f½ ⊘ z) ⊕ lgam_stirling_corr (z ⊕ f½)
