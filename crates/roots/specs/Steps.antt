-- The words of the contracts inside the square root: what each of its steps needs and gives.
use Rattle.std.specs.Prelude.{◌≡◌, ℕ, zero, suc, ◌+◌, ◌*◌, ◌/◌, ◌%◌, ◌^◌, ◌<◌, ◌≤◌, false}
use Rattle.std.specs.Float.Ieee.{odd}
use Rattle.roots.specs.SquareRoot.{rounded_root, root_of_units}

-- ---- the digits of the root

-- before a further digit: rest has the digits to come, in 54 places, and root ^ 2 + remainder is the number whose
-- digits are passed
pub record Partial (rest root remainder : ℕ) : Type 0 where
  pub room : rest < 2 ^ 54
  pub small : root < 2 ^ 52
  pub over : remainder ≤ 2 * root

-- after it: the two highest digits of rest stand behind those passed
pub record NextDigit (rest root remainder new_rest new_root new_remainder : ℕ) : Type 0 where
  pub left : new_rest ≡ rest % 2 ^ 52 * 4
  pub small : new_root < 2 * root + 2
  pub over : new_remainder ≤ 2 * new_root
  pub value : new_root * new_root + new_remainder ≡ 4 * (root * root + remainder) + rest / 2 ^ 52

-- root is the largest whole number whose square is at most radicand * 2 ^ 52
pub record WholeRoot (radicand root remainder : ℕ) : Type 0 where
  pub value : root * root + remainder ≡ radicand * 2 ^ 52
  pub over : remainder ≤ 2 * root
  pub small : root < 2 ^ 53

-- root is the whole number nearest to the root of radicand * 2 ^ 52, at each scale c
pub record NearestWhole (radicand root : ℕ) : Type 0 where
  pub value : (c : ℕ) → root ≡ rounded_root (radicand * 2 ^ 52 * 4 ^ c) c
  pub least : 2 ^ 52 ≤ root
  pub most : root < 2 ^ 53

-- ---- patterns

-- how many units of 2 ^ -1074 the exponent's field and the fraction of a finite float stand for
abbrev pub fields_magnitude : ℕ → ℕ → ℕ
fields_magnitude zero fraction = fraction
fields_magnitude (suc field) fraction = (2 ^ 52 + fraction) * 2 ^ field

-- how many the pattern of a finite float above 0 stands for
abbrev pub magnitude : ℕ → ℕ
magnitude pattern = fields_magnitude (pattern / 2 ^ 52) (pattern % 2 ^ 52)

-- n is significand * 2 ^ exponent / 2 ^ 53, the significand of 53 digits
pub record Normal (n significand exponent : ℕ) : Type 0 where
  pub value : significand * 2 ^ exponent ≡ n * 2 ^ 53
  pub least : 2 ^ 52 ≤ significand
  pub most : significand < 2 ^ 53
  pub room : exponent < 2099

-- the pattern is that of the root of n units, significand * 2 ^ exponent units; the leading digit of the significand
-- adds 1 to the exponent's field
pub record RootPattern (n pattern : ℕ) : Type 0 where
  pub exponent : ℕ
  pub significand : ℕ
  pub bits : pattern ≡ exponent * 2 ^ 52 + significand
  pub least : 2 ^ 52 ≤ significand
  pub most : significand < 2 ^ 53
  pub room : exponent < 2046
  pub root : root_of_units n ≡ odd 53 false significand exponent 1074
