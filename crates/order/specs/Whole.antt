-- Whole orders from 0 to 999, and their parts (02, #101): what is proved of them (proofs/Whole.antt).
use Rattle.std.specs.Prelude.{◌≡◌, refl, true, false, ℕ, ◌+◌, ◌≤◌, T, Float}
use Rattle.std.proofs.Common.{arith}
use Rattle.std.specs.Float.{binary64}
use Rattle.std.specs.Float.Ieee.{neg, eq, fits, is_nan, of_bits, of_int}
use Rattle.floats.specs.Operations.{whole, decimal, f0}
use Rattle.order.specs.Order.{too_large, below, shifted, fraction_of, top_rung, num}

-- v is the whole order m, at most 999, by the comparison of floats: −0.0 is the order 0. Every f64 of a program fits.
pub record WholeOrder (v : Float) (m : ℕ) : Type 0 where
  pub most : m ≤ 999
  pub same : eq v (whole m) ≡ true
  pub fit : T (fits binary64 v)

-- by computing: 0 and −0.0, and 999
pub limits : WholeOrder f0 0 × WholeOrder (neg f0) 0 × WholeOrder (decimal 999 0) 999
unfolding decimal eq fits neg of_bits of_int
limits = (
  record { most = omega arith; same = refl; fit = tt },
  record { most = omega arith; same = refl; fit = tt },
  record { most = omega arith; same = refl; fit = tt },
)

-- such an order is not refused; its parts are those of m
pub record WholeParts (v : Float) (m : ℕ) : Type 0 where
  pub number : is_nan v ≡ false
  pub small : too_large v ≡ false
  pub side : below v ≡ false
  pub up : shifted v ≡ whole (m + 1)
  pub no_fraction : fraction_of v ≡ f0
  pub top : top_rung v ≡ m + 1
  pub columns : num v ≡ m + 3
