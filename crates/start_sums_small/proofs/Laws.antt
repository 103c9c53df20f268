-- What the crates above may know of dvsa and vvsa beside their contracts.
use Rattle.std.proofs.Common.{◌≡◌, refl, ◌∙◌, T, true, false, Bool, Float}
use Rattle.std.specs.Float.{nan, binary64}
use Rattle.std.specs.Float.Ieee.{mul, neg, of_bits, eq, fits}
use Rattle.std.specs.Float.Ieee.Fits.{cond-fits, mul-fits, div-fits}
use Rattle.std.specs.Float.Ieee.Bits.{of_bits-fits}
use Rattle.floats.proofs.Examples.{entry_of}
use Rattle.floats.specs.Operations.{f0, f1}
use Rattle.exponential.proofs.Laws.{exp_minus_zero, exp_fits}
use Rattle.start_sums_small.specs.SmallSums.{dvsa_at_zero, dvsa, vvsa_at_zero, vvsa}
use Rattle.start_sums_small.specs.SmallSums.Open.{dvsa_order_zero, dvsa_at_zero_law, dvsa_series, vvsa_at_zero_law, vvsa_series}
use Rattle.start_sums_small.specs.SmallSums.Examples.{examples_hold}

-- ---- values from the list of examples, by their place in it

-- P4
pub dvsa_zero_one : dvsa f0 f1 ≡ f0
dvsa_zero_one = entry_of examples_hold 0 nan

pub vvsa_zero_zero : vvsa f0 f0 ≡ f0
vvsa_zero_zero = entry_of examples_hold 3 nan

-- ---- a value with an elementary function in it

-- P4
pub dvsa_zero_zero : dvsa f0 f0 ≡ f1
unfolding eq mul neg of_bits
dvsa_zero_zero = dvsa_order_zero f0 f0 refl ∙ exp_minus_zero

-- ---- the start sums are f64s

pub dvsa_fits : (x va : Float) → T (fits binary64 (dvsa x va))
unfolding dvsa_at_zero
dvsa_fits x va = by_order (eq va f0) refl
  where
    at_zero : T (fits binary64 (dvsa_at_zero va))
    at_zero = cond-fits binary64 _ _ _ (of_bits-fits binary64 0) (div-fits binary64 _ _)

    by_argument : eq va f0 ≡ false → (b : Bool) → eq x f0 ≡ b → T (fits binary64 (dvsa x va))
    by_argument o true e = rw (dvsa_at_zero_law x va o e) at_zero
    by_argument o false e = rw (dvsa_series x va o e) (mul-fits binary64 _ _)

    by_order : (b : Bool) → eq va f0 ≡ b → T (fits binary64 (dvsa x va))
    by_order true e = rw (dvsa_order_zero x va e) (exp_fits _ (mul-fits binary64 _ _))
    by_order false e = by_argument e (eq x f0) refl

pub vvsa_fits : (x va : Float) → T (fits binary64 (vvsa x va))
unfolding vvsa_at_zero
vvsa_fits x va = by_argument (eq x f0) refl
  where
    at_zero : T (fits binary64 (vvsa_at_zero va))
    at_zero = cond-fits binary64 _ _ _ (of_bits-fits binary64 0) (div-fits binary64 _ _)

    by_argument : (b : Bool) → eq x f0 ≡ b → T (fits binary64 (vvsa x va))
    by_argument true e = rw (vvsa_at_zero_law x va e) at_zero
    by_argument false e = rw (vvsa_series x va e) (mul-fits binary64 _ _)
