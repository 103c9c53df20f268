-- Derivatives behind 01's examples, of D at x = 0 and f = 0, as laws for the crates above.
use Rattle.std.proofs.Common.{◌≡◌, false}
use Rattle.std.specs.Float.Ieee.{nan, neg}
use Rattle.floats.proofs.Examples.{entry_of}
use Rattle.floats.specs.Operations.{decimal, f0, f1}
use Rattle.floats.specs.declared.Function.TheVariants.{D}
use Rattle.derivatives.specs.Derivatives.{derivative}
use Rattle.derivatives.specs.Derivatives.Examples.{examples_hold}

pub D_derivative_0 : derivative D false f0 f0 0 f1 f0 ≡ f0
D_derivative_0 = entry_of examples_hold 0 nan

pub D_derivative_1 : derivative D false f0 f0 1 f0 (neg f1) ≡ f1
D_derivative_1 = entry_of examples_hold 1 nan

pub D_derivative_2 : derivative D false f0 f0 2 (neg f1) (neg f0) ≡ f0
D_derivative_2 = entry_of examples_hold 2 nan

pub D_derivative_4 : derivative D false f0 f0 4 (decimal 3 0) f0 ≡ f0
D_derivative_4 = entry_of examples_hold 3 nan
