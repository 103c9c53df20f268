-- The loop over the 53 digits of a root: what holds while some are left, and how a step keeps it. With `left` digits to come the number whose digits are
-- passed counts 2 ^ 54 * 4 ^ left times, and the rest 4 ^ left times: together they are radicand * 2 ^ 106 at each step.
use Rattle.std.proofs.Common.{◌≡◌, ℕ, zero, suc, ◌+◌, ◌-◌, ◌*◌, ◌/◌, ◌%◌, ◌^◌, ◌<◌, ◌≤◌, sym, ap, mul-le-mul_right}
use Rattle.std.proofs.Common.{mul-le-mul_left, zero-add, arith, pow_pos}
use Rattle.std.proofs.Math.Nat.{pow-succ'}
use Rattle.roots.specs.Steps.{Partial, NextDigit, WholeRoot}

pub record Found (radicand rest root remainder left : ℕ) : Type 0 where
  pub room : rest < 2 ^ 54
  pub small : (root + 1) * 2 ^ left ≤ 2 ^ 53
  pub over : remainder ≤ 2 * root
  pub value : radicand * 2 ^ 106 ≡ (root * root + remainder) * (2 ^ 54 * 4 ^ left) + rest * 4 ^ left

pub found_none : (radicand : ℕ) → radicand < 2 ^ 54 → Found radicand radicand 0 0 53
found_none radicand h = record { room = h; small = omega arith; over = omega arith; value = sym (zero-add (radicand * 2 ^ 106)) }

pub partial : (radicand rest root remainder left : ℕ) → 0 < left → Found radicand rest root remainder left → Partial rest root remainder
partial radicand rest root remainder zero p f = absurd (omega arith)
partial radicand rest root remainder (suc left) p f = record {
  room = f.room;
  small = half (2 ^ left) (pow_pos left) (rw (pow-succ' 2 left) at f.small);
  over = f.over;
}
  where
    half : (b : ℕ) → 0 < b → (root + 1) * (2 * b) ≤ 2 ^ 53 → root < 2 ^ 52
    half b B h = let k : (root + 1) * 2 ≤ (root + 1) * (2 * b) = mul-le-mul_left (root + 1) (omega arith) in omega arith

-- the two highest digits of the rest go over
carried : (whole passed rest b : ℕ) → whole ≡ passed * (2 ^ 54 * (4 * b)) + rest * (4 * b)
    → whole ≡ (4 * passed + rest / 2 ^ 52) * (2 ^ 54 * b) + rest % 2 ^ 52 * 4 * b
carried whole passed rest b h = split (rest / 2 ^ 52) (rest % 2 ^ 52) (omega arith)
  where
    split : (high low : ℕ) → rest ≡ high * 2 ^ 52 + low → whole ≡ (4 * passed + high) * (2 ^ 54 * b) + low * 4 * b
    split high low e = let f : rest * b ≡ (high * 2 ^ 52 + low) * b = ap (λ (k : ℕ). k * b) e in omega arith

found_next : (radicand rest root remainder new_rest new_root new_remainder left : ℕ) → 0 < left → Found radicand rest root remainder left
    → NextDigit rest root remainder new_rest new_root new_remainder → Found radicand new_rest new_root new_remainder (left - 1)
found_next radicand rest root remainder new_rest new_root new_remainder zero p f d = absurd (omega arith)
found_next radicand rest root remainder new_rest new_root new_remainder (suc left) p f d = rw (one_less left) (record {
  room = omega arith;
  small = fewer (2 ^ left) (rw (pow-succ' 2 left) at f.small);
  over = d.over;
  value = rw (d.value, d.left) (carried (radicand * 2 ^ 106) (root * root + remainder) rest (4 ^ left) (rw (pow-succ' 4 left) at f.value));
})
  where
    one_less : (k : ℕ) → suc k - 1 ≡ k
    one_less k = omega arith

    fewer : (b : ℕ) → (root + 1) * (2 * b) ≤ 2 ^ 53 → (new_root + 1) * b ≤ 2 ^ 53
    fewer b h = let k : (new_root + 1) * b ≤ (2 * root + 2) * b = mul-le-mul_right b (omega arith) in omega arith

-- the turn after `done` turns
pub found_turn : (radicand rest root remainder new_rest new_root new_remainder done : ℕ) → done < 53 → Found radicand rest root remainder (53 - done)
    → NextDigit rest root remainder new_rest new_root new_remainder → Found radicand new_rest new_root new_remainder (53 - (done + 1))
found_turn radicand rest root remainder new_rest new_root new_remainder done h f d =
    let e : 53 - (done + 1) ≡ 53 - done - 1 = omega arith in
    rw e (found_next radicand rest root remainder new_rest new_root new_remainder (53 - done) (omega arith) f d)

pub found_all : (radicand rest root remainder left : ℕ) → left ≤ 0 → Found radicand rest root remainder left → WholeRoot radicand root remainder
found_all radicand rest root remainder zero p f = record { value = omega arith; over = f.over; small = omega arith }
found_all radicand rest root remainder (suc left) p f = absurd (omega arith)
