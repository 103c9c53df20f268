-- What gamma2 is, case by case. Only this crate's proofs cite these laws.
use Rattle.std.specs.Prelude.{◌≡◌, true, false, Float}
use Rattle.std.specs.Float.Ieee.{lt, eq, to_signed}
use Rattle.floats.specs.Operations.{◌⊖◌, f0, f1}
use Rattle.signs.specs.Signs.{absolute}
use Rattle.truncation.specs.Truncation.{truncated}
use Rattle.gamma.specs.Constants.{pole_value}
use Rattle.gamma.specs.Gamma.{last_of, factorial, gamma_near, gamma_above, reflected, gamma2}

pub gamma2_whole : (x : Float) → eq x (truncated x) ≡ true → lt f0 x ≡ true
    → gamma2 x ≡ factorial (last_of (to_signed 31 (x ⊖ f1)))
unfolding gamma2
gamma2_whole x w p = rw (w, p)

pub gamma2_pole : (x : Float) → eq x (truncated x) ≡ true → lt f0 x ≡ false → gamma2 x ≡ pole_value
unfolding gamma2
gamma2_pole x w p = rw (w, p)

pub gamma2_near : (x : Float) → eq x (truncated x) ≡ false → lt f1 (absolute x) ≡ false → gamma2 x ≡ gamma_near x
unfolding gamma2
gamma2_near x w a = rw (w, a)

pub gamma2_above : (x : Float) → eq x (truncated x) ≡ false → lt f1 (absolute x) ≡ true → lt x f0 ≡ false
    → gamma2 x ≡ gamma_above (absolute x)
unfolding gamma2
gamma2_above x w a n = rw (w, a, n)

pub gamma2_below : (x : Float) → eq x (truncated x) ≡ false → lt f1 (absolute x) ≡ true → lt x f0 ≡ true
    → gamma2 x ≡ reflected x (gamma_above (absolute x))
unfolding gamma2
gamma2_below x w a n = rw (w, a, n)
