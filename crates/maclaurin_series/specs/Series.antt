-- 01, "Off the ladder's path": `pb_maclaurin` (src/xsf/par_cyl.rs), the Maclaurin series of w'' = (x²/4 + a)w (DLMF
-- 12.2.2). Each step is one rounded operation, left to right. The definition of the pair is shut to other crates.
pub mod Open
pub mod Examples
use Rattle.std.specs.Prelude.{false, cond, ℕ, Float}
use Rattle.std.specs.Float.{inf}
use Rattle.std.specs.Float.Ieee.{lt, le}
use Rattle.floats.specs.Operations.{◌⊕◌, ◌⊖◌, ◌⊗◌, ◌⊘◌, whole, f0, f1, f2, f¼, ln2}
use Rattle.signs.specs.Signs.{absolute}
use Rattle.extremes.specs.Extremes.{lesser, greater}
use Rattle.floats.specs.Loops.{Turn, count_up}
use Rattle.mul_exp.specs.MulExp.{mul_exp}
use Rattle.maclaurin_series.specs.Constants.{short_form_limit, series_epsilon, scale, f600}

-- ---- the series

-- c_(n−2), c_(n−1), c_n, c_(n+1), d, dp, xn, prev
abbrev pub State : Type 0
State = Float × Float × Float × Float × Float × Float × Float × Float

-- "(a * c[2] + 0.25 * c[0]) / ((nf + 1.0) * (nf + 2.0))"
abbrev pub next_coefficient : Float → ℕ → Float → Float → Float
next_coefficient a n c0 c2 = (a ⊗ c2 ⊕ f¼ ⊗ c0) ⊘ ((whole n ⊕ f1) ⊗ (whole n ⊕ f2))

-- "c = [c[1], c[2], c[3], cn2]; term = (nf + 2.0) * cn2 * xn; dp += term; xn *= x; d += cn2 * xn; size =
-- term.abs().max(prev);
-- if size <= 1e-17 * dp.abs().min(d.abs() / x.abs()) { break; } prev = term.abs()"
unfoldable pub turn : Float → Float → ℕ → State → Turn State
turn a x n (c0, c1, c2, c3, d, dp, xn, prev) =
    let c = next_coefficient a n c0 c2 in
    let term = (whole n ⊕ f2) ⊗ c ⊗ xn in (
      le (greater (absolute term) prev)
          (series_epsilon ⊗ lesser (absolute (dp ⊕ term)) (absolute (d ⊕ c ⊗ (xn ⊗ x)) ⊘ absolute x)),
      (c1, c2, c3, c, d ⊕ c ⊗ (xn ⊗ x), dp ⊕ term, xn ⊗ x, absolute term),
    )

-- "c = [0.0, 0.0, c0, c1]; (d, dp, xn) = (c0 + c1 * x, c1, x); prev = f64::INFINITY; for n in 0..60"
unfoldable pub series : Float → Float → Float → Float → State
series a x c0 c1 = count_up (turn a x) 60 0 (false, (f0, f0, c0, c1, c0 ⊕ c1 ⊗ x, c1, x, inf false))

-- ---- the pair

-- "(k, ex) = (pow2(600), e - 600.0 * LN_2)", "mul_exp(c0 * k + c1 * (x * k), ex)", "mul_exp(c1 * k + a * c0 * (x * k),
-- ex)"
unfoldable pub short_form : Float → Float → Float → Float → Float → Float × Float
short_form a x c0 c1 e =
    let ex = e ⊖ f600 ⊗ ln2 in
    (mul_exp (c0 ⊗ scale ⊕ c1 ⊗ (x ⊗ scale)) ex, mul_exp (c1 ⊗ scale ⊕ a ⊗ c0 ⊗ (x ⊗ scale)) ex)

-- "if x.abs() < 1e-150 { .. }", "(mul_exp(d, e), mul_exp(dp, e))"
pub pb_maclaurin : Float → Float → Float → Float → Float → Float × Float
pb_maclaurin a x c0 c1 e =
    cond (lt (absolute x) short_form_limit) (short_form a x c0 c1 e)
    (mul_exp (series a x c0 c1).4 e, mul_exp (series a x c0 c1).5 e)
