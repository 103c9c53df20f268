-- What the crates above may know of ln and of powers beside their contracts.
use Rattle.std.proofs.Common.{◌≡◌, refl, ◌∙◌, false}
use Rattle.std.specs.Float.{Float, nan, inf}
use Rattle.std.specs.Float.Ieee.{neg, mul, eq, of_bits}
use Rattle.floats.proofs.Examples.{entry_of}
use Rattle.floats.specs.Operations.{◌⊗◌, bits, decimal, f0, f1}
use Rattle.exponential.specs.Exponential.{exp}
use Rattle.logarithm.specs.Logarithm.{ln, power}
use Rattle.logarithm.specs.Logarithm.Open.{power_is}
use Rattle.logarithm.specs.Logarithm.Examples.{examples_hold}
use Rattle.exponential.specs.Exponential.Examples as exponential

-- ---- values from the list of examples, by their place in it

pub ln_one : ln f1 ≡ f0
ln_one = entry_of examples_hold 0 nan

-- ---- a power with p = 0 is 1 for every b, NaN and negative numbers too

pub power_zero : (b : Float) → power b f0 ≡ f1
unfolding eq of_bits
power_zero b = power_is b f0

pub power_minus_zero : (b : Float) → power b (neg f0) ≡ f1
unfolding eq of_bits neg
power_minus_zero b = power_is b (neg f0)

-- ---- powers with exp in them, by the list of examples of `exponential`; NaN where b is NaN or below 0

-- by the values of ln and exp
by_values : (b p l r : Float) → eq p f0 ≡ false → ln b ≡ l → exp (p ⊗ l) ≡ r → power b p ≡ r
by_values b p l r z a e = power_is b p ∙ rw (z, a) e

pub power_of_nan : power nan f1 ≡ nan
unfolding eq mul of_bits
power_of_nan = by_values _ _ _ _ refl (entry_of examples_hold 13 nan) (entry_of exponential.examples_hold 11 nan)

pub power_root_of_two : power (decimal 2 0) (decimal 5 1) ≡ bits 0x3ff6_a09e_667f_3bcc
unfolding eq mul of_bits decimal
power_root_of_two = by_values _ _ _ _ refl (entry_of examples_hold 1 nan) (entry_of exponential.examples_hold 30 nan)

pub power_of_zero : power f0 (decimal 2 0) ≡ f0
unfolding eq mul of_bits decimal
power_of_zero = by_values _ _ _ _ refl (entry_of examples_hold 8 nan) (entry_of exponential.examples_hold 10 nan)

pub power_of_minus_zero : power (neg f0) (neg f1) ≡ inf false
unfolding eq mul neg of_bits
power_of_minus_zero = by_values _ _ _ _ refl (entry_of examples_hold 9 nan) (entry_of exponential.examples_hold 9 nan)

pub power_below_zero : power (neg f1) (decimal 2 0) ≡ nan
unfolding eq mul neg of_bits decimal
power_below_zero = by_values _ _ _ _ refl (entry_of examples_hold 10 nan) (entry_of exponential.examples_hold 11 nan)

pub power_of_ten : power (decimal 10 0) (neg (decimal 3005 1)) ≡ bits 0x018b_1b75_8337_8ff2
unfolding eq mul neg of_bits decimal
power_of_ten = by_values _ _ _ _ refl (entry_of examples_hold 2 nan) (entry_of exponential.examples_hold 31 nan)
