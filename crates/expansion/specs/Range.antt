-- Why `lgam` is not ported: the source's `lgam_stirling_corr` calls it below 13 only, and here its argument is 13 or
-- more (01, "Off the ladder's path").
-- `stirling_argument_law` and `stirling_argument_near` (proofs/Range.antt) prove both.
use Rattle.std.specs.Prelude.{◌≡◌, refl, true, Float}
use Rattle.std.specs.Float.Ieee.{le, of_bits}
use Rattle.floats.specs.Operations.{◌⊕◌, bits, decimal, f½}
use Rattle.floats.specs.Facts.{Between}
use Rattle.expansion_elementary.specs.Mantissas.{parameter}
use Rattle.expansion.specs.Expansion.{refusal}

-- 13
abbrev pub f13 : Float
f13 = bits 0x402a_0000_0000_0000

pub f13_is : f13 ≡ decimal 13 0
unfolding decimal of_bits
f13_is = refl

-- the argument at the order v
abbrev pub stirling_argument : Float → Float
stirling_argument v = parameter v ⊕ f½

-- for every order that a request is accepted with
abbrev pub Accepted : Type 0
Accepted = (v x : Float) → refusal v x ≡ 0 → le f13 (stirling_argument v) ≡ true

-- for every order from −2147483648 to −14, those just above −20 among them
abbrev pub Near : Type 0
Near = (v : Float) → Between v true 28 4294967296 2 → le f13 (stirling_argument v) ≡ true
