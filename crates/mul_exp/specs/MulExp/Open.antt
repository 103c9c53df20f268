-- What mul_exp is, case by case. Only this crate's proofs cite these laws.
use Rattle.std.specs.Prelude.{◌≡◌, true, false, Float}
use Rattle.std.specs.Float.Ieee.{lt}
use Rattle.floats.specs.Operations.{◌⊕◌, ◌⊗◌, f½}
use Rattle.signs.specs.Signs.{absolute, sign_of}
use Rattle.exponential.specs.Exponential.{exp}
use Rattle.logarithm.specs.Logarithm.{ln}
use Rattle.mul_exp.specs.MulExp.{halved_limit, twice, mul_exp}

pub beyond : (m e : Float) → lt halved_limit (absolute e) ≡ true → mul_exp m e ≡ sign_of m ⊗ exp (ln (absolute m) ⊕ e)
unfolding mul_exp
beyond m e h = rw (h)

pub within : (m e : Float) → lt halved_limit (absolute e) ≡ false → mul_exp m e ≡ twice m (exp (f½ ⊗ e))
unfolding mul_exp
within m e h = rw (h)
