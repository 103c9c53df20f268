-- exp, exp2 and exp_m1 by the tests of the code.
use Rattle.std.proofs.Common.{◌≡◌, refl, ◌≤◌, true, false, cond, to_z-of_z}
use Rattle.std.specs.Float.{Float, inf}
use Rattle.std.specs.Float.Ieee.{lt, le, neg, is_nan}
use Rattle.std.specs.Int.Signed.{mag}
use Rattle.floats.specs.Operations.{◌⊖◌, ◌⊗◌, float, f0, ln2}
use Rattle.signs.proofs.Signs.{nan_test, infinity_is}
use Rattle.near.specs.Near.{near}
use Rattle.near.proofs.Integers.{half_fits, rest_fits, half_exponent, rest_exponent}
use Rattle.exponential.specs.Constants.{log2e, exp_highest, exp_lowest, exp2_highest, exp2_lowest}
use Rattle.exponential.specs.Exponential.{exp_sum, scaled, exp_rest, exp, exp2}
use Rattle.exponential.specs.Exponential.Open.{scaled_is, exp_is, exp2_is, exp_m1_is}
use Rattle.exponential.proofs.NearRange.{exp_exponent, exp2_exponent}

pub exp_of_nan : (y : Float) → is_nan y ≡ true → y ≡ exp y
exp_of_nan y h = rw (exp_is y, nan_test y, h)

pub exp_of_number : (y : Float) → is_nan y ≡ false → exp y ≡
    cond (lt exp_highest y) (inf false)
    (cond (lt y (neg exp_lowest)) f0
    (scaled (exp_sum (exp_rest y (float (near (y ⊗ log2e)))) 1) (near (y ⊗ log2e))))
exp_of_number y h = rw (exp_is y, nan_test y, h)

pub exp_room : (y : Float) → is_nan y ≡ false → lt exp_highest y ≡ false → lt y (neg exp_lowest) ≡ false → mag (near (y ⊗ log2e)) ≤ 1081
exp_room y h p q = exp_exponent y (rw (nan_test y, h)) p q

pub exp2_of_nan : (y : Float) → is_nan y ≡ true → y ≡ exp2 y
exp2_of_nan y h = rw (exp2_is y, nan_test y, h)

pub exp2_of_number : (y : Float) → is_nan y ≡ false → exp2 y ≡
    cond (le exp2_highest y) (inf false)
    (cond (lt y (neg exp2_lowest)) f0
    (scaled (exp_sum ((y ⊖ float (near y)) ⊗ ln2) 1) (near y)))
exp2_of_number y h = rw (exp2_is y, nan_test y, h)

pub exp2_room : (y : Float) → is_nan y ≡ false → le exp2_highest y ≡ false → lt y (neg exp2_lowest) ≡ false → mag (near y) ≤ 1081
exp2_room y h p q = exp2_exponent y (rw (nan_test y, h)) p q

-- what `scaled`, `exp` and `exp2` take
pub ruleset scaled_laws = (half_fits, rest_fits, half_exponent, rest_exponent, scaled_is, to_z-of_z)

pub ruleset exp_laws = (infinity_is, exp_of_nan, exp_of_number, exp_room, to_z-of_z)

pub ruleset exp2_laws = (infinity_is, exp2_of_nan, exp2_of_number, exp2_room, to_z-of_z)
