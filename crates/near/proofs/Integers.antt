-- Sizes of integers: half of one, the rest, and a difference of two naturals, for the casts to i32 and for the exponents of exp.
use Rattle.std.proofs.Common.{◌≡◌, Bool, true, false, cond, ℕ, zero, suc, ◌+◌, ◌-◌, ◌*◌, ◌/◌, ◌≤◌, mul-le-mul, arith}
use Rattle.std.proofs.Common.{lt-ltb, le-ltb, ltb, ℤ, pos, negsuc, neg_ℤ, ◌-ℤ◌, w32, SFits, Fits}
use Rattle.std.proofs.Math.IntN.{neg_ℤ-neg_ℤ, sub_ℕ}
use Rattle.std.specs.Int.Signed.{mag, quot_z}
use mir.Syntax.{Width}
use mir.ValLaws.{sfits_le}

mag_sub : (a b c : ℕ) → a ≤ c → b ≤ suc c → mag (sub_ℕ a b) ≤ c
mag_sub a b c p q = go (ltb a b)
  where
    go : (t : Bool) → mag (cond t (negsuc (b - suc a)) (pos (a - b))) ≤ c
    go true = omega arith
    go false = omega arith

pub mag_neg : (r a : ℕ) → r ≤ suc a → mag (neg_ℤ (pos r)) ≤ a
mag_neg zero a h = omega arith
mag_neg (suc r) a h = omega arith

mag_half : (k : ℤ) → mag (quot_z k (pos 2)) ≤ mag k
mag_half (pos n) = omega arith
mag_half (negsuc n) = mag_neg (suc n / 2) n (omega arith)

pub mag_diff : (a b c : ℕ) → a ≤ c → b ≤ c → mag (pos a -ℤ pos b) ≤ c
mag_diff a zero c p q = omega arith
mag_diff a (suc b) c p q = mag_sub a (suc b) c p (omega arith)

rest_below : (n x : ℕ) → x ≤ suc n / 2 → mag (negsuc n -ℤ neg_ℤ (pos x)) ≤ n
rest_below n zero h = mag_sub 0 (suc n) n (omega arith) (omega arith)
rest_below zero (suc x) h = absurd (omega arith)
rest_below (suc n) (suc x) h = mag_sub (suc x) (suc (suc n)) (suc n) (omega arith) (omega arith)

mag_rest : (k : ℤ) → mag (k -ℤ quot_z k (pos 2)) ≤ mag k
mag_rest (pos n) = mag_diff n (n / 2) n (omega arith) (omega arith)
mag_rest (negsuc n) = rest_below n (suc n / 2) (omega arith)

pub half_fits : {w : Width} {k : ℤ} → SFits w k → SFits w (quot_z k (pos 2))
half_fits {k = k} h = sfits_le (mag_half k) h

pub rest_fits : {w : Width} {k : ℤ} → SFits w k → SFits w (k -ℤ quot_z k (pos 2))
rest_fits {k = k} h = sfits_le (mag_rest k) h

-- a product of two small numbers fits a u32
pub small_product : (a b : ℕ) → a ≤ 99 → b ≤ 99 → Fits w32 (a * b)
small_product a b p q = let k = mul-le-mul p q in omega arith

-- ---- the two exponents that an exponent of at most 1081 is split into

pub half_exponent : (k : ℤ) → mag k ≤ 1081 → mag (quot_z k (pos 2)) ≤ 1021
half_exponent (pos n) h = omega arith
half_exponent (negsuc n) h = mag_neg (suc n / 2) 1021 (omega arith)

pos_sub : (n x : ℕ) → x ≤ n → pos n -ℤ pos x ≡ pos (n - x)
pos_sub n zero h = let e : n + 0 ≡ n - 0 = omega arith in rw e
pos_sub n (suc x) h = rw (le-ltb n (suc x) h)

pub rest_exponent : (k : ℤ) → mag k ≤ 1081 → mag (k -ℤ quot_z k (pos 2)) ≤ 1021
rest_exponent (pos n) h = rw (pos_sub n (n / 2) (omega arith)) (omega arith)
rest_exponent (negsuc n) h = rw (neg_ℤ-neg_ℤ (pos (suc n / 2)), lt-ltb (suc n / 2) (suc n) (omega arith)) (omega arith)
