-- What the crates above may know of exp, exp2 and exp_m1 beside their contracts.
use Rattle.std.proofs.Common.{◌≡◌, T, Float}
use Rattle.std.specs.Float.{nan, binary64}
use Rattle.std.specs.Float.Ieee.{neg, fits}
use Rattle.std.specs.Float.Ieee.Fits.{cond-fits, inf-fits, mul-fits}
use Rattle.std.specs.Float.Ieee.Bits.{of_bits-fits}
use Rattle.floats.proofs.Examples.{entry_of}
use Rattle.floats.specs.Operations.{f0, f1}
use Rattle.exponential.specs.Exponential.{exp, exp2}
use Rattle.exponential.specs.Exponential.Open.{scaled_is, exp_is}
use Rattle.exponential.specs.Exponential.Examples.{examples_hold}

-- ---- values from the list of examples, by their place in it

pub exp_zero : exp f0 ≡ f1
exp_zero = entry_of examples_hold 0 nan

pub exp_minus_zero : exp (neg f0) ≡ f1
exp_minus_zero = entry_of examples_hold 1 nan

pub exp2_zero : exp2 f0 ≡ f1
exp2_zero = entry_of examples_hold 12 nan

pub exp2_minus_zero : exp2 (neg f0) ≡ f1
exp2_minus_zero = entry_of examples_hold 13 nan

-- ---- the exponential of an f64 is an f64

pub exp_fits : (y : Float) → T (fits binary64 y) → T (fits binary64 (exp y))
exp_fits y h =
    rw (exp_is y, scaled_is)
    (cond-fits binary64 _ _ _ h
    (cond-fits binary64 _ _ _ (inf-fits binary64 _)
    (cond-fits binary64 _ _ _ (of_bits-fits binary64 0) (mul-fits binary64 _ _))))
