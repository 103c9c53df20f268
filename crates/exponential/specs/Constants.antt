-- The constants of 01's exp, exp2 and exp_m1, each by its bits; `NAME-is` says which decimal of 01 it is the float
-- nearest to.
use Rattle.std.specs.Prelude.{◌≡◌, refl, Float}
use Rattle.std.specs.Float.Ieee.{of_bits}
use Rattle.floats.specs.Operations.{bits, decimal}

-- 1.4426950408889634: 1 / ln 2
abbrev pub log2e : Float
log2e = bits 0x3ff7_1547_652b_82fe

pub log2e_is : log2e ≡ decimal 14426950408889634 16
unfolding decimal of_bits
log2e_is = refl

-- 0.6931471803691238: ln 2 is ln2_high + ln2Low: the high part has few digits, so that its products with whole numbers
-- are exact
abbrev pub ln2_high : Float
ln2_high = bits 0x3fe6_2e42_fee0_0000

pub ln2_high_is : ln2_high ≡ decimal 6931471803691238 16
unfolding decimal of_bits
ln2_high_is = refl

-- 1.9082149292705877e-10
abbrev pub ln2_low : Float
ln2_low = bits 0x3dea_39ef_3579_3c76

pub ln2_low_is : ln2_low ≡ decimal 19082149292705877 26
unfolding decimal of_bits
ln2_low_is = refl

-- 709.782712893384: above this exp is infinite
abbrev pub exp_highest : Float
exp_highest = bits 0x4086_2e42_fefa_39ef

pub exp_highest_is : exp_highest ≡ decimal 709782712893384 12
unfolding decimal of_bits
exp_highest_is = refl

-- 745.2: below minus this exp is 0
abbrev pub exp_lowest : Float
exp_lowest = bits 0x4087_4999_9999_999a

pub exp_lowest_is : exp_lowest ≡ decimal 7452 1
unfolding decimal of_bits
exp_lowest_is = refl

-- 1024: from here on exp2 is infinite
abbrev pub exp2_highest : Float
exp2_highest = bits 0x4090_0000_0000_0000

pub exp2_highest_is : exp2_highest ≡ decimal 1024 0
unfolding decimal of_bits
exp2_highest_is = refl

-- 1080: below minus this exp2 is 0
abbrev pub exp2_lowest : Float
exp2_lowest = bits 0x4090_e000_0000_0000

pub exp2_lowest_is : exp2_lowest ≡ decimal 1080 0
unfolding decimal of_bits
exp2_lowest_is = refl
