-- The middle of a rounded root q * 2 ^ c and any other float s * 2 ^ k lies on the float's side of the root: the float is at least a step of 2 ^ c away,
-- and the rounding has compared the root with the middle of that step.
use Rattle.std.proofs.Common.{◌≡◌, ℕ, zero, suc, ◌+◌, ◌*◌, ◌^◌, ◌<◌, ◌≤◌, sym, inl, inr, le_trans}
use Rattle.std.proofs.Common.{le_of_eq, lt_of_lt_of_le, le_of_suc-le-suc, lt_of_le_of_lt, le_of_lt, lt_irrefl}
use Rattle.std.proofs.Common.{mul-le-mul_right, mul-le-mul, lt_of_mul-lt-mul_right, eq-or-lt_of_le}
use Rattle.std.proofs.Common.{mul-le-mul_left, mul-lt-mul_of_pos_right, lt_of_not-le, arith, pow_mono}
use Rattle.std.proofs.Math.Nat.{mul-mul-mul_comm, pow-succ'}
use Rattle.std.proofs.lemmas.Bool.{cases_lt}
use Rattle.floats.proofs.Powers.{shl_split}
use Rattle.roots.proofs.RootRounding.{four_pos, less_scaled, more_scaled, Rounded}
use Rattle.roots.proofs.RootScale.{four_pow}

-- a float above q * 2 ^ c is at least a step above it: it is a multiple of 2 ^ c, since 53 digits at a smaller exponent do not reach that far
step : (q c s k : ℕ) → 2 ^ 52 ≤ q → s < 2 ^ 53 → q * 2 ^ c < s * 2 ^ k → suc q * 2 ^ c ≤ s * 2 ^ k
step q c s k l h g = elim (cases_lt k c) [
  | inl a ↦ absurd (lt_irrefl (q * 2 ^ c) (lt_of_lt_of_le g (le_trans (few (2 ^ k) (2 ^ c) (rw (pow-succ' 2 k) at (pow_mono a))) (mul-le-mul_right (2 ^ c) l))))
  | inr a ↦ rw (shl_split s k c a) (mul-le-mul_right (2 ^ c) (lt_of_mul-lt-mul_right (2 ^ c) (rw (shl_split s k c a) at g)))
]
  where
    few : (p r : ℕ) → 2 * p ≤ r → s * p ≤ 2 ^ 52 * r
    few p r a = le_trans (mul-le-mul_right p (le_of_lt h)) (omega arith)

square : (a c : ℕ) → a * 2 ^ c * (a * 2 ^ c) ≡ a * a * 4 ^ c
square a c = rw (four_pow c) (mul-mul-mul_comm a (2 ^ c) a (2 ^ c))

pub middle_above : (x q c s k : ℕ) → Rounded x q → s < 2 ^ 53 → q * 2 ^ c < s * 2 ^ k
    → 4 * (x * 4 ^ c) < (s * 2 ^ k + q * 2 ^ c) * (s * 2 ^ k + q * 2 ^ c)
middle_above x q c s k r h g =
    let t : (2 * q + 1) * 2 ^ c ≤ s * 2 ^ k + q * 2 ^ c = omega (arith, step q c s k r.least h g) in
    lt_of_lt_of_le (less_scaled x ((2 * q + 1) * (2 * q + 1)) (4 ^ c) (four_pos c) (omega (arith, r.high))) (rw (square (2 * q + 1) c) at (mul-le-mul t t))

-- below q = 2 ^ 52 floats are half a step apart, but there the root is not below q
pub middle_below : (x q c s k : ℕ) → Rounded x q → s < 2 ^ 53 → s * 2 ^ k < q * 2 ^ c
    → (s * 2 ^ k + q * 2 ^ c) * (s * 2 ^ k + q * 2 ^ c) < 4 * (x * 4 ^ c)
middle_below x q c s k r h g = elim (eq-or-lt_of_le r.least) [
  | inl e ↦ lt_of_lt_of_le (twice (s * 2 ^ k) (q * 2 ^ c) g) (mul-le-mul_left 4 (le_trans (le_of_eq (square q c)) (mul-le-mul_right (4 ^ c) (r.edge (sym e)))))
  | inr e ↦ inner q e r g
]
  where
    twice : (y r : ℕ) → y < r → (y + r) * (y + r) < 4 * (r * r)
    twice y r a =
        let i : (y + r) * (y + r) ≤ (y + r) * (r + r) = mul-le-mul_left (y + r) (omega arith) in
        let j : (y + r) * (r + r) < (r + r) * (r + r) = mul-lt-mul_of_pos_right (omega arith) (omega arith) in
        omega arith

    under : (p : ℕ) → 2 ^ 52 ≤ p → s * 2 ^ k < suc p * 2 ^ c → s * 2 ^ k ≤ p * 2 ^ c
    under p l b = le_of_suc-le-suc (lt_of_not-le (λ (a : p * 2 ^ c < s * 2 ^ k). lt_irrefl (s * 2 ^ k) (lt_of_lt_of_le b (step p c s k l h a))))

    inner : (q : ℕ) → 2 ^ 52 < q → Rounded x q → s * 2 ^ k < q * 2 ^ c → (s * 2 ^ k + q * 2 ^ c) * (s * 2 ^ k + q * 2 ^ c) < 4 * (x * 4 ^ c)
    inner zero e r g = absurd (omega arith)
    inner (suc p) e r g =
        let t : s * 2 ^ k + suc p * 2 ^ c ≤ (2 * p + 1) * 2 ^ c = omega (arith, under p (omega arith) g) in
        lt_of_le_of_lt (rw (square (2 * p + 1) c) at (mul-le-mul t t)) (more_scaled x ((2 * p + 1) * (2 * p + 1)) (4 ^ c) (four_pos c) (omega (arith, r.low)))
