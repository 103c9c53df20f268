-- 01, "Elementary functions, the lowest layer", the lines of ln and of the power: each step is one rounded operation,
-- left to right. The definitions are shut: other crates cannot unfold them. What they may know of them are the
-- contracts and the laws that proofs/ exports.
pub mod Open
pub mod Examples
use Rattle.std.specs.Prelude.{true, false, cond, ℕ, zero, suc, ◌+◌, ◌-◌, ◌*◌, ℤ, pos, neg_ℤ, ◌+ℤ◌, Float}
use Rattle.std.specs.Float.{nan, inf, fin}
use Rattle.std.specs.Float.Ieee.{size, le, eq}
use Rattle.floats.specs.Operations.{◌⊕◌, ◌⊖◌, ◌⊗◌, ◌⊘◌, float, whole, f0, f½, f1, f2}
use Rattle.floats.specs.Loops.{down_to}
use Rattle.exponential.specs.Constants.{ln2_high, ln2_low}
use Rattle.exponential.specs.Exponential.{exp}
use Rattle.logarithm.specs.Constants.{root2}

-- ---- "ln b"

-- "a = 1/(2j+1) + z·a"
abbrev pub ln_term : Float → ℕ → Float → Float
ln_term z j a = f1 ⊘ whole (2 * j + 1) ⊕ z ⊗ a

-- "a = 0, j = 12 down to 0"
pub ln_sum : Float → Float
ln_sum z = down_to (ln_term z) 0 13 f0

-- "((2·g)·a + e·1.9082149292705877e-10) + e·0.6931471803691238", with z = g·g
abbrev pub ln_from_quotient : Float → Float → Float
ln_from_quotient g e = f2 ⊗ g ⊗ ln_sum (g ⊗ g) ⊕ e ⊗ ln2_low ⊕ e ⊗ ln2_high

-- "g = (m−1)/(m+1)"
abbrev pub ln_near_one : Float → Float → Float
ln_near_one m e = ln_from_quotient ((m ⊖ f1) ⊘ (m ⊕ f1)) e

-- "if m ≥ 1.4142135623730951 halve m, add 1 to e"
pub ln_of_parts : Float → ℤ → Float
ln_of_parts m e = cond (le root2 m) (ln_near_one (m ⊗ f½) (float (e +ℤ pos 1))) (ln_near_one m (float e))

-- "b = m·2^e, 1 ≤ m < 2": `fin s n e` is n·2^e, and n has `size n` binary digits, so that m is n·2^(1 − size n)
pub ln : Float → Float
ln nan = nan
ln (inf s) = cond s nan (inf false)
ln (fin s zero e) = inf true
ln (fin true (suc n) e) = nan
ln (fin false (suc n) e) = ln_of_parts (fin false (suc n) (neg_ℤ (pos (size (suc n) - 1)))) (e +ℤ pos (size (suc n) - 1))

-- ---- "Power of b (0 or more, or NaN): 1 if p = 0; else exp(p·ln b)"; for other b the same formula

pub power : Float → Float → Float
power b p = cond (eq p f0) f1 (exp (p ⊗ ln b))
