-- The square root (01, "Elementary functions, the lowest layer"; IEEE 754, square_root), in whole numbers.
use Rattle.std.specs.Prelude.{ℕ, zero, suc, ◌+◌, ◌-◌, ◌*◌, ◌/◌, ◌^◌, false, cond, nat_le, Float}
use Prim.Native.Nat.{compare}
use Rattle.std.specs.Float.{nan, inf, fin, binary64}
use Rattle.std.specs.Float.Ieee.{prec, low, up, down, size, nearest, odd}
pub mod Open
pub mod Examples

-- ---- "Square root is IEEE 754's: nearest, ties to even, proved by comparing whole squares" (01; IEEE 754, square_root)

-- the whole root of an n below 4 ^ d, binary digit by binary digit: that of n / 4, and one digit more
pub root_digits : ℕ → ℕ → ℕ
root_digits zero n = 0
root_digits (suc d) n = let q = root_digits d (n / 4) in cond (nat_le ((2 * q + 1) * (2 * q + 1)) n) (2 * q + 1) (2 * q)

-- the largest whole number whose square is at most n (`whole_root_law`, proofs/RootWhole.antt, proves that it is)
pub whole_root : ℕ → ℕ
whole_root n = root_digits (size n) n

-- the whole number nearest to the root of x in units of 2 ^ c: q or q + 1, by how x compares with the square of the
-- middle, q + 1/2; at a tie the even one
pub rounded_root : ℕ → ℕ → ℕ
rounded_root x c = let q = whole_root (x / 4 ^ c) in nearest q (compare (4 * x) ((2 * q + 1) * (2 * q + 1) * 4 ^ c))

-- how many binary digits the root of x has beyond the 53 that the format keeps
pub dropped_digits : ℕ → ℕ
dropped_digits x = (size x + 1) / 2 - prec binary64

-- the root of n units of 2 ^ -1074, as a float: in these units it is the root of n * 2 ^ 1074
pub root_of_units : ℕ → Float
root_of_units n =
    let x = n * 2 ^ low binary64 in
    let c = dropped_digits x in
    odd (prec binary64) false (rounded_root x c) c (low binary64)

-- the square root at binary64: a zero stays, with its sign, and below 0 it is NaN. `square_root_nearest` proves that it
-- is the nearest float.
pub square_root : Float → Float
square_root nan = nan
square_root (inf s) = cond s nan (inf false)
square_root (fin s zero e) = fin s zero e
square_root (fin s (suc m) e) = cond s nan (root_of_units (suc m * up e * 2 ^ low binary64 / down e))
