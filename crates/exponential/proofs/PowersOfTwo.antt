-- The bit pattern of a power of two: for h of size up to 1021, h + 1023 is the exponent's field of 2 ^ h, and the digits below it are 0.
use Rattle.std.proofs.Common.{SFits, w32, nat_abs, to_z-of_z, ◌≡◌, refl, ◌∙◌, Bool, true, false, not, ◌&&◌, ℕ, zero}
use Rattle.std.proofs.Common.{suc, ◌+◌, ◌-◌, ◌*◌, ◌/◌, ◌%◌, ◌<◌, ◌≤◌, arith, le-ltb, le-leb, ne_eqb, T, leb, eqb, ℤ}
use Rattle.std.proofs.Common.{pos, negsuc, ◌+ℤ◌}
use Rattle.std.specs.Float.{fin, binary64}
use Rattle.std.specs.Float.Ieee.{minus, odd, of_fields, of_bits, nan_bits}
use Rattle.std.proofs.Math.Nat.{mul-mod_left}
use Rattle.std.specs.Int.Signed.{mag}
use Rattle.std.specs.Int.Count.{count_trailing_zeros}
use Rattle.std.proofs.lemmas.Bool.{lt-leb}
use Rattle.std.proofs.Math.Bool.{and-false}

-- a pattern whose digits are all 0 is no NaN's
pub no_nan : (e : ℕ) → T (not (nan_bits binary64 (e * 4503599627370496)))
unfolding nan_bits
no_nan e = rw (mul-mod_left e 4503599627370496, and-false (eqb (e * 4503599627370496 % 9223372036854775808 / 4503599627370496) 2047)) tt

-- a field above 0 and below 2047, and digits that are all 0
of_field : (e : ℕ) → 0 < e → e < 2047 → of_bits binary64 (e * 4503599627370496) ≡ fin false 1 (minus (e + 51) 1074)
unfolding of_bits of_fields odd count_trailing_zeros
of_field zero p q = absurd (omega arith)
of_field (suc x) p q =
    let sign : leb 9223372036854775808 (suc x * 4503599627370496) ≡ false = lt-leb 9223372036854775808 (suc x * 4503599627370496) (omega arith) in
    let up : suc x * 4503599627370496 % 9223372036854775808 / 4503599627370496 ≡ suc x = omega arith in
    let down : suc x * 4503599627370496 % 4503599627370496 ≡ 0 = omega arith in
    let next : suc x + 51 ≡ x + 52 = omega arith in
    rw (sign, up, down, next) (rw (ne_eqb (suc x) 2047 (λ e. omega arith)))

-- the field of 2 ^ h
pub record Field (h : ℤ) : Type 0 where
  pub e : ℕ
  pub sum : h +ℤ pos 1023 ≡ pos e
  pub above : 0 < e
  pub below : e < 2047
  pub is : of_bits binary64 (e * 4503599627370496) ≡ fin false 1 h

pub field : (h : ℤ) → mag h ≤ 1021 → Field h
field (pos n) k =
    let d : n + 1023 + 51 - 1074 ≡ n = omega arith in
    record {
      e = n + 1023;
      sum = refl;
      above = omega arith;
      below = omega arith;
      is = of_field (n + 1023) (omega arith) (omega arith) ∙ rw (le-leb 1074 (n + 1023 + 51) (omega arith), d);
    }
field (negsuc n) k =
    let d : 1074 - suc (1023 - suc n + 51) ≡ n = omega arith in
    record {
      e = 1023 - suc n;
      sum = rw (le-ltb 1023 (suc n) (omega arith));
      above = omega arith;
      below = omega arith;
      is = of_field (1023 - suc n) (omega arith) (omega arith) ∙ rw (lt-leb 1074 (1023 - suc n + 51) (omega arith), d);
    }

pub sum_fits : (h : ℤ) → mag h ≤ 1021 → SFits w32 (h +ℤ pos 1023)
sum_fits h k = let f = field h k in rw f.sum (record { sfits = omega arith })

pub power_is : (h : ℤ) → mag h ≤ 1021 → of_bits binary64 (nat_abs (h +ℤ pos 1023) * 4503599627370496) ≡ fin false 1 h
power_is h k = let f = field h k in rw f.sum f.is

-- what `power_of_two` takes
pub ruleset power_laws = (no_nan, sum_fits, power_is, to_z-of_z)
