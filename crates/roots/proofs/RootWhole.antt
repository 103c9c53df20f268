-- The whole root of n, by induction on its digits: its square is at most n and the next number's square is above n, which is true of one number only.
use Rattle.std.proofs.Common.{◌≡◌, ℕ, zero, suc, ◌+◌, ◌*◌, ◌/◌, ◌^◌, ◌<◌, ◌≤◌, cond, leb, inl, inr, lt_of_lt_of_le}
use Rattle.std.proofs.Common.{le_of_suc-le-suc, mul-le-mul, le_antisymm, lt_of_not-le, arith, le-leb}
use Rattle.std.specs.Float.Ieee.{size}
use Rattle.std.proofs.Math.Nat.{pow-succ', pow-le-pow_left}
use Rattle.std.specs.Float.Ieee.Digits.{size-lt}
use Rattle.std.proofs.lemmas.Bool.{cases_lt, lt-leb}
use Rattle.roots.specs.SquareRoot.{root_digits, whole_root}
use Rattle.roots.specs.SquareRoot.Open.{root_digits_none, root_digits_one_more, whole_root_is}

-- q is the whole root of n
pub record IsRoot (n q : ℕ) : Type 0 where
  pub least : q * q ≤ n
  pub next : n < q * q + 2 * q + 1

-- one digit more
one_more : (n q : ℕ) → IsRoot (n / 4) q → IsRoot n (cond (leb ((2 * q + 1) * (2 * q + 1)) n) (2 * q + 1) (2 * q))
one_more n q r = elim (cases_lt n ((2 * q + 1) * (2 * q + 1))) [
  | inl h ↦ rw (lt-leb ((2 * q + 1) * (2 * q + 1)) n h) (record { least = omega arith; next = omega arith })
  | inr h ↦ rw (le-leb ((2 * q + 1) * (2 * q + 1)) n h) (record { least = h; next = omega arith })
]

digits_root : (d n : ℕ) → n < 4 ^ d → IsRoot n (root_digits d n)
digits_root zero n h = rw (root_digits_none n) (record { least = omega arith; next = omega arith })
digits_root (suc d) n h = rw (root_digits_one_more d n) (one_more n (root_digits d (n / 4)) (digits_root d (n / 4) (omega (arith, h, pow-succ' 4 d))))

pub whole_root_law : (n : ℕ) → IsRoot n (whole_root n)
whole_root_law n = rw (whole_root_is n) (digits_root (size n) n (lt_of_lt_of_le (size-lt n) (pow-le-pow_left (omega arith) (size n))))

no_more : (n q r : ℕ) → IsRoot n q → IsRoot n r → r ≤ q
no_more n q r v w = le_of_suc-le-suc (lt_of_not-le (λ (h : suc q ≤ r). let k : suc q * suc q ≤ r * r = mul-le-mul h h in omega arith))

pub root_unique : (n q r : ℕ) → IsRoot n q → IsRoot n r → q ≡ r
root_unique n q r v w = le_antisymm (no_more n r q w v) (no_more n q r v w)
