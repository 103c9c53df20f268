-- Powers of two: their order, and multiples of them.
use Rattle.std.proofs.Common.{◌≡◌, sym, ap, ◌∙◌, ℕ, suc, ◌+◌, ◌-◌, ◌*◌, ◌^◌, ◌≤◌, ◌<◌, lt_of_not-le, not-le_of_lt}
use Rattle.std.proofs.Common.{mul_assoc, sub-add_cancel, pow-suc, pow-add, pow_mono}
use Rattle.std.proofs.Math.Nat.{pow-succ'}

pub pow_lt_back : (i j : ℕ) → 2 ^ i < 2 ^ j → i < j
pow_lt_back i j h = lt_of_not-le (λ (g : j ≤ i). not-le_of_lt h (pow_mono g))

pub shl_shl : (q i j : ℕ) → q * 2 ^ i * 2 ^ j ≡ q * 2 ^ (i + j)
shl_shl q i j = mul_assoc q (2 ^ i) (2 ^ j) ∙ ap (λ (z : ℕ). q * z) (sym (pow-add 2 i j))

-- in two steps
pub shl_split : (q j l : ℕ) → l ≤ j → q * 2 ^ j ≡ q * 2 ^ (j - l) * 2 ^ l
shl_split q j l h = ap (λ (z : ℕ). q * 2 ^ z) (sym (sub-add_cancel h)) ∙ sym (shl_shl q (j - l) l)

-- one place from the first factor to the second
pub place_moved : (p j : ℕ) → 2 ^ suc p * 2 ^ j ≡ 2 ^ p * 2 ^ suc j
place_moved p j = rw (pow-suc 2 p, pow-succ' 2 j) (mul_assoc (2 ^ p) 2 (2 ^ j))
