-- What is proved of the table: `TableRight`. Each entry is within one last-place unit of its fraction (01, "Off the
-- ladder's path") and the float nearest to it, and the polynomials obey DLMF 12.10.
use Rattle.std.specs.Prelude.{◌≡◌, Bool, true, false, ℕ, suc, ◌*◌, ◌-◌, ◌/◌, ◌^◌, ◌<◌, T, leb, ℤ, pos, negsuc, neg_ℤ, nat_abs, ◌+ℤ◌, ◌*ℤ◌, length, Float}
use Rattle.std.specs.Float.{nan, inf, fin, binary64}
use Rattle.std.specs.Float.Ieee.{prec, low, up, down, size, round}
use Rattle.floats.specs.Facts.{signed_int}
use Rattle.expansion_coefficients.specs.Fractions.{Fraction, over}
use Rattle.expansion_coefficients.specs.Dlmf.{obeys, fractions, fraction_at}
use Rattle.expansion_coefficients.specs.Table.{coefficients, entry}

-- |±n − a / b·2^1074|, times b: n is a float's size in units of 2^−1074
abbrev pub apart : Bool → ℕ → ℤ → ℕ → ℕ
apart s n a b = nat_abs (signed_int s (n * b) +ℤ neg_ℤ (a *ℤ pos (2 ^ low binary64)))

-- a last-place unit is 2^(digits of n − 53) of these units, and at least one
unfoldable pub within_one_unit : Float → Fraction → Bool
within_one_unit nan x = false
within_one_unit (inf s) x = false
within_one_unit (fin s m e) (over a b) =
    let n = m * up e * 2 ^ low binary64 / down e in
    leb (apart s n a b) (2 ^ (size n - prec binary64) * b)

-- the float nearest to a fraction, ties to even
abbrev pub nearest_to : Fraction → Float
nearest_to (over (pos a) b) = round binary64 false a b
nearest_to (over (negsuc a) b) = round binary64 true (suc a) b

pub record TableRight : Type 0 where
  pub entries : (length coefficients ≡ 172) × (length fractions ≡ 172)
  pub close : (i : ℕ) → i < 172 → T (within_one_unit (entry i) (fraction_at i))
  pub nearest : (i : ℕ) → i < 172 → entry i ≡ nearest_to (fraction_at i)
  pub dlmf : (s : ℕ) → s < 11 → T (obeys s)
