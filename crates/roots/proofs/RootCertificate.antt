-- The certificate of a guess q: what the two differences of `certified_root` stand for, and which of q - 1, q and q + 1 the remainder makes nearest. With
-- q = high * 2 ^ 26 + low neither difference has wrapped where it is small, so the remainder radicand * 2 ^ 52 - q ^ 2 is exact.
use Rattle.std.proofs.Common.{◌≡◌, ℕ, zero, suc, ◌+◌, ◌-◌, ◌*◌, ◌/◌, ◌%◌, ◌^◌, ◌<◌, ◌≤◌, sym, ap, ◌∙◌, subst, inl, inr}
use Rattle.std.proofs.Common.{mul-le-mul, arith, ltb, lt-ltb, le-ltb, Bool, true, false}
use Rattle.std.specs.Int.{from_bool}
use Rattle.std.proofs.lemmas.Bool.{cases_lt}
use Rattle.roots.specs.Steps.{NearestWhole}
use Rattle.roots.proofs.RootRounding.{nearest_between}

-- ---- the products of the guess's parts

pub high_square : (q : ℕ) → q < 2 ^ 54 → q / 2 ^ 26 * (q / 2 ^ 26) ≤ 2 ^ 56
high_square q h = let g : q / 2 ^ 26 ≤ 2 ^ 28 = omega arith in mul-le-mul g g

pub mixed_product : (q : ℕ) → q < 2 ^ 54 → q / 2 ^ 26 * (q % 2 ^ 26) ≤ 2 ^ 54
mixed_product q h =
    let g : q / 2 ^ 26 ≤ 2 ^ 28 = omega arith in
    let k : q % 2 ^ 26 ≤ 2 ^ 26 = omega arith in
    mul-le-mul g k

pub low_square : (q : ℕ) → q % 2 ^ 26 * (q % 2 ^ 26) ≤ 2 ^ 52
low_square q = let k : q % 2 ^ 26 ≤ 2 ^ 26 = omega arith in mul-le-mul k k

square : (q high low : ℕ) → q ≡ high * 2 ^ 26 + low → q * q ≡ high * high * 2 ^ 52 + high * low * 2 ^ 27 + low * low
square q high low e = ap (λ (k : ℕ). k * k) e ∙ omega arith

-- ---- the remainder, plus 2 ^ 56

pub remainder_is : (radicand q first second : ℕ) → radicand < 2 ^ 54 - 1 → q < 2 ^ 54
    → (first + q / 2 ^ 26 * (q / 2 ^ 26)) % 2 ^ 64 ≡ radicand + 2 ^ 30 → first < 2 ^ 31
    → (second + (q / 2 ^ 26 * (q % 2 ^ 26) + 36028796515647488)) % 2 ^ 64 ≡ first * 2 ^ 25 → second < 2 ^ 30
    → second * 2 ^ 27 + 2 ^ 52 - q % 2 ^ 26 * (q % 2 ^ 26) + q * q ≡ radicand * 2 ^ 52 + 2 ^ 56
remainder_is radicand q first second h l e f d s =
    go (q * q) (q / 2 ^ 26 * (q / 2 ^ 26)) (q / 2 ^ 26 * (q % 2 ^ 26)) (q % 2 ^ 26 * (q % 2 ^ 26)) (square q (q / 2 ^ 26) (q % 2 ^ 26) (omega arith))
    (omega (arith, high_square q l)) (omega (arith, mixed_product q l)) (low_square q)
  where
    go : (qq hh hl ll : ℕ) → qq ≡ hh * 2 ^ 52 + hl * 2 ^ 27 + ll → first + hh ≡ radicand + 2 ^ 30 → second + (hl + 36028796515647488) ≡ first * 2 ^ 25 → ll ≤ 2 ^ 52
        → second * 2 ^ 27 + 2 ^ 52 - ll + qq ≡ radicand * 2 ^ 52 + 2 ^ 56
    go qq hh hl ll a b c d = omega arith

-- ---- the nearest of q - 1, q and q + 1

-- r is 1 where a < b, and 0 elsewhere
pub record LessDigit (a b r : ℕ) : Type 0 where
  pub small : r ≤ 1
  pub one : a < b → r ≡ 1
  pub none : b ≤ a → r ≡ 0

pub certified : (radicand q remainder i j : ℕ) → 2 ^ 52 ≤ radicand → radicand < 2 ^ 54 - 1 → remainder + q * q ≡ radicand * 2 ^ 52 + 2 ^ 56
    → 2 ^ 56 + 3 ≤ remainder + 3 * q → remainder ≤ 2 ^ 56 + 2 + 3 * q
    → LessDigit (2 ^ 56 + q) remainder i → LessDigit (remainder + q) (2 ^ 56 + 1) j → NearestWhole radicand (q + i - j)
certified radicand zero remainder i j l h e a b o p = absurd (omega arith)
certified radicand (suc q) remainder i j l h e a b o p = elim (cases_lt (2 ^ 56 + suc q) remainder) [
  | inl k ↦
      let u = o.one k in
      let v = p.none (omega arith) in
      at (suc (suc q)) (omega arith) (omega arith) (omega arith)
  | inr k ↦ elim (cases_lt (remainder + suc q) (2 ^ 56 + 1)) [
    | inl g ↦
        let u = o.none k in
        let v = p.one g in
        at q (omega arith) (omega arith) (omega arith)
    | inr g ↦
        let u = o.none k in
        let v = p.none g in
        at (suc q) (omega arith) (omega arith) (omega arith)
  ]
]
  where
    at : (r : ℕ) → suc q + i - j ≡ r → r * r < radicand * 2 ^ 52 + r → radicand * 2 ^ 52 ≤ r * r + r → NearestWhole radicand (suc q + i - j)
    at r k f g = subst (λ (y : ℕ). NearestWhole radicand y) (sym k) (nearest_between radicand r l h f g)

-- ---- by the tests of `certified_root`

-- a difference modulo 2 ^ 64, as a sum
added_back : (a b r : ℕ) → a < 2 ^ 64 → b ≤ 2 ^ 64 → (a + (2 ^ 64 - b)) % 2 ^ 64 ≡ r → (r + b) % 2 ^ 64 ≡ a
added_back a b r h k e = omega arith

-- a test as a number
test_digit : (a b r : ℕ) → r ≡ from_bool (ltb a b) → LessDigit a b r
test_digit a b r e = rw e (record { small = at_most (ltb a b); one = λ h. rw (lt-ltb a b h); none = λ h. rw (le-ltb a b h) })
  where
    at_most : (t : Bool) → from_bool t ≤ 1
    at_most true = omega arith
    at_most false = omega arith

pub certified_by_tests : (radicand q first second above below : ℕ) → 2 ^ 52 ≤ radicand → radicand < 2 ^ 54 - 1 → q < 2 ^ 54
    → (radicand + 2 ^ 30 + (2 ^ 64 - q / 2 ^ 26 * (q / 2 ^ 26))) % 2 ^ 64 ≡ first → first < 2 ^ 31
    → (first * 2 ^ 25 + (2 ^ 64 - (q / 2 ^ 26 * (q % 2 ^ 26) + 36028796515647488))) % 2 ^ 64 ≡ second → second < 2 ^ 30
    → 2 ^ 56 + 3 ≤ second * 2 ^ 27 + 2 ^ 52 - q % 2 ^ 26 * (q % 2 ^ 26) + 3 * q
    → second * 2 ^ 27 + 2 ^ 52 - q % 2 ^ 26 * (q % 2 ^ 26) ≤ 2 ^ 56 + 2 + 3 * q
    → above ≡ from_bool (ltb (2 ^ 56 + q) (second * 2 ^ 27 + 2 ^ 52 - q % 2 ^ 26 * (q % 2 ^ 26)))
    → below ≡ from_bool (ltb (second * 2 ^ 27 + 2 ^ 52 - q % 2 ^ 26 * (q % 2 ^ 26) + q) (2 ^ 56 + 1)) → NearestWhole radicand (q + above - below)
certified_by_tests radicand q first second above below l h k e f d s a b o p =
    let i = added_back _ _ first (omega arith) (omega (arith, high_square q k)) e in
    let j = added_back _ _ second (omega arith) (omega (arith, mixed_product q k)) d in
    certified radicand q _ above below l h (remainder_is radicand q first second h k i f j s) a b (test_digit _ _ above o) (test_digit _ _ below p)
