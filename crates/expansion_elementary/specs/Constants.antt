-- The constants of `pbdv_elementary`, each by its bits; `NAME-is` says which decimal of the source it is.
use Rattle.std.specs.Prelude.{◌≡◌, refl, Float}
use Rattle.std.specs.Float.Ieee.{of_bits}
use Rattle.floats.specs.Operations.{bits, decimal}

-- 1e9: arguments are clamped to this size
abbrev pub clamp_limit : Float
clamp_limit = bits 0x41cd_cd65_0000_0000

pub clamp_limit_is : clamp_limit ≡ decimal 1000000000 0
unfolding decimal of_bits
clamp_limit_is = refl
