-- 01, "Off the ladder's path": `pbdv_elementary` (src/xsf/par_cyl.rs), D and D' by DLMF 12.10.25 and 12.10.29 as
-- mantissas with one exponent. Each step is one rounded operation, left to right. The definition of the mantissas is
-- shut to other crates.
pub mod Open
use Rattle.std.specs.Prelude.{cond, Float}
use Rattle.std.specs.Float.Ieee.{lt, le, neg}
use Rattle.floats.specs.Operations.{◌⊕◌, ◌⊖◌, ◌⊗◌, ◌⊘◌, f0, f½, f1, f2, f¼}
use Rattle.exponential.specs.Exponential.{exp_m1}
use Rattle.logarithm.specs.Logarithm.{ln}
use Rattle.roots.specs.SquareRoot.{square_root}
use Rattle.expansion_polynomials.specs.Polynomials.{u_sum, v_sum}
use Rattle.gamma_ratio.specs.GammaRatio.{ln_gamma_ratio}
use Rattle.expansion_elementary.specs.Constants.{clamp_limit}

-- "let a = -v - 0.5;"
abbrev pub parameter : Float → Float
parameter v = neg v ⊖ f½

-- "x.clamp(-1e9, 1e9)"
unfoldable pub clamped : Float → Float
clamped x = cond (lt x (neg clamp_limit)) (neg clamp_limit) (cond (lt clamp_limit x) clamp_limit x)

-- "if x >= 0.0 { (0.5 * x + s).ln() } else { a.ln() - (s - 0.5 * x).ln() }"
unfoldable pub logarithm_of : Float → Float → Float → Float
logarithm_of a x s = cond (le f0 x) (ln (f½ ⊗ x ⊕ s)) (ln a ⊖ ln (s ⊖ f½ ⊗ x))

-- "-0.5 * x * s - a * ln_xs + 0.5 * a" (DLMF 12.10.15, 12.10.26)
unfoldable pub exponent_of : Float → Float → Float → Float
exponent_of a x s = neg f½ ⊗ x ⊗ s ⊖ a ⊗ logarithm_of a x s ⊕ f½ ⊗ a

-- "let q = t * t + 1.0; let w = 1.0 / (q * q.sqrt() * mu2);", mu2 being "2.0 * a"
unfoldable pub weight : Float → Float → Float
weight a t = let q = t ⊗ t ⊕ f1 in f1 ⊘ (q ⊗ square_root q ⊗ (f2 ⊗ a))

-- "1.0 + 0.5 * (-ln_gamma_ratio(a)).exp_m1()" (DLMF 12.10.28)
unfoldable pub g_bar : Float → Float
g_bar a = f1 ⊕ f½ ⊗ exp_m1 (neg (ln_gamma_ratio a))

-- "let s = (0.25 * x * x + a).sqrt();"
abbrev pub root_of : Float → Float → Float
root_of a x = square_root (f¼ ⊗ x ⊗ x ⊕ a)

-- "let t = 0.5 * x / a.sqrt();"
abbrev pub ratio_of : Float → Float → Float
ratio_of a x = f½ ⊗ x ⊘ square_root a

-- "([g * su / (2.0 * s).sqrt(), -g * sv * (0.5 * s).sqrt()], l)", by a and the clamped x
unfoldable pub mantissas_by : Float → Float → Float × Float × Float
mantissas_by a x =
    let s = root_of a x in
    let t = ratio_of a x in
    let w = weight a t in
    (g_bar a ⊗ u_sum t w ⊘ square_root (f2 ⊗ s), neg (g_bar a) ⊗ v_sum t w ⊗ square_root (f½ ⊗ s), exponent_of a x s)

pub mantissas : Float → Float → Float × Float × Float
mantissas v x = mantissas_by (parameter v) (clamped x)
