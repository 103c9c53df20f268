-- What the crates above may know of mul_exp beside its contract.
use Rattle.std.proofs.Common.{◌≡◌, refl, ◌∙◌, ap, Float}
use Rattle.std.specs.Float.Ieee.{add, mul, neg, lt, of_bits}
use Rattle.std.specs.Float.{nan}
use Rattle.floats.proofs.Examples.{entry_of}
use Rattle.floats.specs.Operations.{◌⊗◌, decimal, f0, f1}
use Rattle.signs.specs.Signs.{absolute, sign_of}
use Rattle.exponential.proofs.Laws.{exp_zero}
use Rattle.exponential.specs.Exponential.Examples as exponential
use Rattle.logarithm.specs.Logarithm.Examples as logarithm
use Rattle.mul_exp.specs.MulExp.{twice, mul_exp}
use Rattle.mul_exp.specs.MulExp.Open.{beyond, within}

-- e^0
pub mul_exp_zero : (m : Float) → mul_exp m f0 ≡ m ⊗ f1 ⊗ f1
unfolding mul lt absolute of_bits
mul_exp_zero m = within m f0 refl ∙ ap (twice m) exp_zero

-- beyond 1400 a zero keeps its sign
pub zero_beyond : mul_exp (neg f0) (decimal 1500 0) ≡ neg f0
unfolding add mul neg lt absolute sign_of of_bits decimal
zero_beyond = beyond (neg f0) (decimal 1500 0) refl ∙ rw (entry_of logarithm.examples_hold 8 nan) (rw (entry_of exponential.examples_hold 10 nan) refl)
