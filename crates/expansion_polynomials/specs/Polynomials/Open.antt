-- What the polynomials and sums are, case by case. Only this crate's proofs cite these laws.
use Rattle.std.specs.Prelude.{◌≡◌, Bool, true, false, List, ℕ, ◌/◌, ◌%◌, Float}
use Rattle.std.proofs.Math.Path.{refl}
use Rattle.std.proofs.Common.{eq-eqb, ne_eqb}
use Rattle.std.specs.Float.Ieee.{neg}
use Rattle.floats.specs.Operations.{◌⊗◌, f0, f1}
use Rattle.floats.specs.Polynomials.{polevl}
use Rattle.expansion_coefficients.specs.Table.{u_row, v_row}
use Rattle.expansion_polynomials.specs.Polynomials.{in_squares, uv_poly, summed, u_sum, v_sum}

module _ (p : List Float) (s : ℕ) (t : Float) where
  pub barred_plus : s / 2 % 2 ≡ 0 → in_squares p s t true ≡ polevl p (neg t ⊗ t) ⊗ f1
  unfolding in_squares
  barred_plus h = rw (eq-eqb (s / 2 % 2) 0 h)

  pub barred_minus : (s / 2 % 2 ≡ 0 → ⊥) → in_squares p s t true ≡ polevl p (neg t ⊗ t) ⊗ neg f1
  unfolding in_squares
  barred_minus h = rw (ne_eqb (s / 2 % 2) 0 h)

  pub plain : in_squares p s t false ≡ polevl p (t ⊗ t)
  unfolding in_squares
  plain = refl

  pub odd_row : (bar : Bool) → s % 2 ≡ 1 → uv_poly p s t bar ≡ in_squares p s t bar ⊗ t
  unfolding uv_poly
  odd_row bar h = rw (eq-eqb (s % 2) 1 h)

  pub even_row : (bar : Bool) → (s % 2 ≡ 1 → ⊥) → uv_poly p s t bar ≡ in_squares p s t bar
  unfolding uv_poly
  even_row bar h = rw (ne_eqb (s % 2) 1 h)

-- those above together
pub ruleset cases = (barred_plus, barred_minus, plain, odd_row, even_row)

pub u_sum_law : (t w : Float) → u_sum t w ≡ summed u_row t w 11 f0
unfolding u_sum
u_sum_law t w = refl

pub v_sum_law : (t w : Float) → v_sum t w ≡ summed v_row t w 11 f0
unfolding v_sum
v_sum_law t w = refl
