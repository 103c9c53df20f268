-- What the crates above may know of dvla and vvla beside their contracts.
use Rattle.std.proofs.Common.{◌≡◌, refl, T, true, false, Bool, Float}
use Rattle.std.specs.Float.{binary64}
use Rattle.std.specs.Float.Ieee.{lt, fits}
use Rattle.std.specs.Float.Ieee.Fits.{add-fits, sub-fits, mul-fits}
use Rattle.floats.specs.Operations.{f0}
use Rattle.start_sums_large.specs.StartSums.{dvla_expansion, dvla_joined, vvla_expansion, vvla_joined, dvla, vvla}
use Rattle.start_sums_large.specs.StartSums.Open.{dvla_above, vvla_above, dvla_below, vvla_below}

-- ---- the start sums are f64s

pub dvla_fits : (x va : Float) → T (fits binary64 (dvla x va))
unfolding dvla_joined dvla_expansion
dvla_fits x va = by_side (lt x f0) refl
  where
    by_side : (b : Bool) → lt x f0 ≡ b → T (fits binary64 (dvla x va))
    by_side true e = rw (dvla_below x va e) (add-fits binary64 _ _)
    by_side false e = rw (dvla_above x va e) (mul-fits binary64 _ _)

pub vvla_fits : (x va : Float) → T (fits binary64 (vvla x va))
unfolding vvla_joined vvla_expansion
vvla_fits x va = by_side (lt x f0) refl
  where
    by_side : (b : Bool) → lt x f0 ≡ b → T (fits binary64 (vvla x va))
    by_side true e = rw (vvla_below x va e) (sub-fits binary64 _ _)
    by_side false e = rw (vvla_above x va e) (mul-fits binary64 _ _)
