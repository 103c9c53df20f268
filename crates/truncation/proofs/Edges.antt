-- What 01 says of the cut, as theorems about its definitions.
use Rattle.std.proofs.Common.{◌≡◌, true, false, pos, negsuc, refl}
use Rattle.std.specs.Float.{nan, inf}
use Rattle.std.specs.Float.Ieee.{neg, sub, of_bits, round, to_signed}
use Rattle.floats.specs.Operations.{f0, f½, f1, bits}
use Rattle.truncation.specs.Truncation.{truncated, fraction}

-- At the edges, by computing: a cut to zero keeps the sign; "Casts to i32 saturate, NaN to 0"; a cut is towards zero.
pub edges :
    (truncated (neg f½) ≡ neg f0)
    × (truncated (neg (bits 0x3ff8_0000_0000_0000)) ≡ neg f1)
    × (fraction (neg (bits 0x3ff8_0000_0000_0000)) ≡ neg f½)
    × (to_signed 31 (neg (bits 0x3ff8_0000_0000_0000)) ≡ negsuc 0)
    × (to_signed 31 (inf false) ≡ pos 2147483647)
    × (to_signed 31 (inf true) ≡ negsuc 2147483647)
    × (to_signed 31 nan ≡ pos 0)
unfolding truncated fraction neg of_bits round sub to_signed
edges = (refl, refl, refl, refl, refl, refl, refl)
