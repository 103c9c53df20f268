-- The words that every definition above shares: binary64's rounded operations, an integer as a float, and a constant by
-- its bits or its digits.
use Rattle.std.specs.Prelude.{◌≡◌, refl, ℕ, ◌^◌, false, ℤ, pos, Float}
use Rattle.std.specs.Float.Ieee as Ieee
use Rattle.std.specs.Float.{binary64}
use Rattle.std.specs.Float.Ieee.{round, of_bits}

-- IEEE 754's sum, difference, product and quotient at binary64, each rounded once. So x ⊗ y ⊖ z reads as the source
-- line x * y - z.
infixl 6 ◌⊕◌ ◌⊖◌
infixl 7 ◌⊗◌ ◌⊘◌
abbrev pub ◌⊕◌ : Float → Float → Float
x ⊕ y = Ieee.add binary64 x y

abbrev pub ◌⊖◌ : Float → Float → Float
x ⊖ y = Ieee.sub binary64 x y

abbrev pub ◌⊗◌ : Float → Float → Float
x ⊗ y = Ieee.mul binary64 x y

abbrev pub ◌⊘◌ : Float → Float → Float
x ⊘ y = Ieee.div binary64 x y

-- an integer as a float, as the source's `f64::from(k)`
abbrev pub float : ℤ → Float
float z = Ieee.of_int binary64 z

-- a counter as a float
abbrev pub whole : ℕ → Float
whole n = float (pos n)

-- the float with this bit pattern: how a constant is named
abbrev pub bits : ℕ → Float
bits n = Ieee.of_bits binary64 n

-- digits / 10 ^ places, rounded once: the float that a decimal literal of a program stands for. Beside each constant
-- stands the theorem that it is its decimal.
unfoldable pub decimal : ℕ → ℕ → Float
unfolding round
decimal digits places = round binary64 false digits (10 ^ places)

-- ---- constants that every layer uses, each with its decimal

-- 0
abbrev pub f0 : Float
f0 = bits 0

pub f0_is : f0 ≡ decimal 0 0
unfolding decimal of_bits
f0_is = refl

-- 0.5
abbrev pub f½ : Float
f½ = bits 0x3fe0_0000_0000_0000

pub f½_is : f½ ≡ decimal 5 1
unfolding decimal of_bits
f½_is = refl

-- 1
abbrev pub f1 : Float
f1 = bits 0x3ff0_0000_0000_0000

pub f1_is : f1 ≡ decimal 1 0
unfolding decimal of_bits
f1_is = refl

-- 0.25
abbrev pub f¼ : Float
f¼ = bits 0x3fd0_0000_0000_0000

pub f¼_is : f¼ ≡ decimal 25 2
unfolding decimal of_bits
f¼_is = refl

-- 2
abbrev pub f2 : Float
f2 = bits 0x4000_0000_0000_0000

pub f2_is : f2 ≡ decimal 2 0
unfolding decimal of_bits
f2_is = refl

-- 0.6931471805599453: ln 2, the source's LN_2
abbrev pub ln2 : Float
ln2 = bits 0x3fe6_2e42_fefa_39ef

pub ln2_is : ln2 ≡ decimal 6931471805599453 16
unfolding decimal of_bits
ln2_is = refl

-- 3.141592653589793: π, the source's PI
abbrev pub pi : Float
pi = bits 0x4009_21fb_5444_2d18

pub pi_is : pi ≡ decimal 3141592653589793 15
unfolding decimal of_bits
pi_is = refl

-- 2 ^ 52: from here on every float is whole
abbrev pub whole_from : Float
whole_from = bits 0x4330_0000_0000_0000

pub whole_from_is : whole_from ≡ decimal 4503599627370496 0
unfolding decimal of_bits
whole_from_is = refl

-- ---- the operations at these constants, by computing

pub operations : (f½ ⊕ f½ ≡ f1) × (f1 ⊖ f½ ≡ f½) × (f1 ⊗ f½ ≡ f½) × (f½ ⊘ f½ ≡ f1)
unfolding Ieee.add Ieee.sub Ieee.mul Ieee.div round of_bits
operations = (refl, refl, refl, refl)
