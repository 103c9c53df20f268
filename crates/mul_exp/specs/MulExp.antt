-- 01, "Off the ladder's path": `mul_exp` (src/utils.rs), m·e^e. Each step is one rounded operation, left to right. The
-- definition is shut to other crates.
pub mod Open
use Rattle.std.specs.Prelude.{◌≡◌, refl, cond, Float}
use Rattle.std.specs.Float.Ieee.{lt, of_bits}
use Rattle.floats.specs.Operations.{◌⊕◌, ◌⊗◌, bits, decimal, f½}
use Rattle.signs.specs.Signs.{absolute, sign_of}
use Rattle.exponential.specs.Exponential.{exp}
use Rattle.logarithm.specs.Logarithm.{ln}

-- 1400
abbrev pub halved_limit : Float
halved_limit = bits 0x4095_e000_0000_0000

pub halved_limit_is : halved_limit ≡ decimal 1400 0
unfolding decimal of_bits
halved_limit_is = refl

-- "m * h * h"
abbrev pub twice : Float → Float → Float
twice m h = m ⊗ h ⊗ h

-- "if e.abs() > 1400.0 { return m.signum() * (m.abs().ln() + e).exp(); }", "let h = (0.5 * e).exp();"
pub mul_exp : Float → Float → Float
mul_exp m e = cond (lt halved_limit (absolute e)) (sign_of m ⊗ exp (ln (absolute m) ⊕ e)) (twice m (exp (f½ ⊗ e)))
