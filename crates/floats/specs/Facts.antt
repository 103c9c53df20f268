-- The words in which the laws of proofs/ speak of floats. A finite float is a sign and a fraction: the library's
-- `HasValue x s a c` says that x has the sign s and the size a / c. Its `grid f a c` is what a / c rounds to in the
-- format f, in units of the format's smallest value, of which 2 ^ low f make 1.
use Rattle.std.specs.Prelude.{◌≡◌, ℕ, ◌*◌, ◌^◌, ◌≤◌, ◌<◌, Bool, true, false, cond, ℤ, pos, neg_ℤ, Float}
use Rattle.std.specs.Float.{Format}
use Rattle.std.specs.Float.Ieee.{prec, low}
use Rattle.std.specs.Float.Ieee.Exact.{HasValue}
use Rattle.std.specs.Float.Ieee.Scale.{overflow}

-- ±n as an integer, negative where s is true
abbrev pub signed_int : Bool → ℕ → ℤ
signed_int s n = cond s (neg_ℤ (pos n)) (pos n)

-- ±a ≤ ±b, s and t the signs; the two zeros are equal
abbrev pub SignedLe : Bool → ℕ → Bool → ℕ → Type 0
SignedLe false a false b = a ≤ b
SignedLe false a true b = (a ≡ 0) × (b ≡ 0)
SignedLe true a false b = Unit {0}
SignedLe true a true b = b ≤ a

-- a finite value that the format holds: q * 2 ^ j units, q of at most `prec` binary digits
pub record Grid (f : Format) (x : Float) : Type 0 where
  pub sign : Bool
  pub q : ℕ
  pub j : ℕ
  pub small : q < 2 ^ prec f
  pub in_range : q * 2 ^ j < overflow f
  pub value : HasValue x sign (q * 2 ^ j) (2 ^ low f)

-- a finite value with the sign s and a size from l / d to u / d
pub record Between (x : Float) (s : Bool) (l u d : ℕ) : Type 0 where
  pub size : ℕ
  pub over : ℕ
  pub positive : 0 < over
  pub value : HasValue x s size over
  pub least : l * over ≤ size * d
  pub most : size * d ≤ u * over
