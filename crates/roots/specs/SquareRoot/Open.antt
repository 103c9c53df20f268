-- What each definition of the square root is, opened for the proofs of this crate.
use Rattle.std.specs.Prelude.{◌≡◌, ℕ, suc, ◌+◌, ◌-◌, ◌*◌, ◌/◌, ◌^◌, Bool, false, cond, ℤ, nat_le, refl}
use Prim.Native.Nat.{compare}
use Rattle.std.specs.Float.{nan, inf, fin}
use Rattle.std.specs.Float.Ieee.{up, down, size, nearest, odd}
use Rattle.roots.specs.SquareRoot.{root_digits, whole_root, rounded_root, dropped_digits, root_of_units, square_root}

pub root_digits_none : (n : ℕ) → root_digits 0 n ≡ 0
unfolding root_digits
root_digits_none n = refl

pub root_digits_one_more : (d n : ℕ)
    → root_digits (suc d) n
    ≡ (let q = root_digits d (n / 4) in cond (nat_le ((2 * q + 1) * (2 * q + 1)) n) (2 * q + 1) (2 * q))
unfolding root_digits
root_digits_one_more d n = refl

pub whole_root_is : (n : ℕ) → whole_root n ≡ root_digits (size n) n
unfolding whole_root
whole_root_is n = refl

pub rounded_root_is : (x c : ℕ)
    → rounded_root x c
    ≡ (let q = whole_root (x / 4 ^ c) in nearest q (compare (4 * x) ((2 * q + 1) * (2 * q + 1) * 4 ^ c)))
unfolding rounded_root
rounded_root_is x c = refl

pub dropped_digits_is : (x : ℕ) → dropped_digits x ≡ (size x + 1) / 2 - 53
unfolding dropped_digits
dropped_digits_is x = refl

pub root_of_units_is : (n : ℕ)
    → root_of_units n ≡ (let x = n * 2 ^ 1074 in let c = dropped_digits x in odd 53 false (rounded_root x c) c 1074)
unfolding root_of_units
root_of_units_is n = refl

pub square_root_nan : square_root nan ≡ nan
unfolding square_root
square_root_nan = refl

pub square_root_infinity : (s : Bool) → square_root (inf s) ≡ cond s nan (inf false)
unfolding square_root
square_root_infinity s = refl

pub square_root_zero : (s : Bool) (e : ℤ) → square_root (fin s 0 e) ≡ fin s 0 e
unfolding square_root
square_root_zero s e = refl

pub square_root_finite : (s : Bool) (m : ℕ) (e : ℤ)
    → square_root (fin s (suc m) e) ≡ cond s nan (root_of_units (suc m * up e * 2 ^ 1074 / down e))
unfolding square_root
square_root_finite s m e = refl
