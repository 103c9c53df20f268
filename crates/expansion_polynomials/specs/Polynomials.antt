-- 01, "Off the ladder's path": `uv_poly` (src/xsf/par_cyl.rs) over `polevl` (src/xsf/cephes/polevl.rs), and the sums
-- over s of `pbdv_elementary`. Each step is one rounded operation, left to right. The sums are shut to other crates.
pub mod Open
pub mod Examples
use Rattle.std.specs.Prelude.{Bool, true, cond, List, ℕ, zero, suc, ◌/◌, ◌%◌, eqb, take, drop, Float}
use Rattle.std.specs.Float.Ieee.{neg}
use Rattle.floats.specs.Operations.{◌⊕◌, ◌⊗◌, f0, f1}
use Rattle.floats.specs.Polynomials.{polevl}
use Rattle.expansion_coefficients.specs.Dlmf.{count}
use Rattle.expansion_coefficients.specs.Table.{start, u_row, v_row}

-- "if bar { polevl(-t * t, p) * if s & 2 == 0 { 1.0 } else { -1.0 } } else { polevl(t * t, p) }": with bar, i^s
-- u_s(−it) up to the factor t (DLMF 12.10.27)
unfoldable pub in_squares : List Float → ℕ → Float → Bool → Float
in_squares p s t bar = cond bar (polevl p (neg t ⊗ t) ⊗ cond (eqb (s / 2 % 2) 0) f1 (neg f1)) (polevl p (t ⊗ t))

-- "if s % 2 == 1 { r * t } else { r }"
unfoldable pub uv_poly : List Float → ℕ → Float → Bool → Float
uv_poly p s t bar = cond (eqb (s % 2) 1) (in_squares p s t bar ⊗ t) (in_squares p s t bar)

-- "su = su * w + uv_poly(U_POLY[k], k, t, true)" for k = n − 1 down to 0
unfoldable pub summed : (ℕ → List Float) → Float → Float → ℕ → Float → Float
summed row t w zero a = a
summed row t w (suc k) a = summed row t w k (a ⊗ w ⊕ uv_poly (row k) k t true)

-- the row of u_s in a table that starts with that of u_0, or of v_s in one that starts with that of v_0
abbrev pub row_of : List Float → ℕ → List Float
row_of c s = take (count s) (drop (start s) c)

-- "let (mut su, mut sv) = (0.0, 0.0); for k in (0..=10).rev()"
pub u_sum : Float → Float → Float
u_sum t w = summed u_row t w 11 f0

pub v_sum : Float → Float → Float
v_sum t w = summed v_row t w 11 f0
