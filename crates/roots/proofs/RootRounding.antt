-- The root of x * 4 ^ c in units of 2 ^ c, rounded: the whole root q of x, or q + 1 where x is above the square of the middle, q + 1/2. That square lies
-- between q * q + q and the next whole number, so no x is a tie.
use Rattle.std.proofs.Common.{◌≡◌, ℕ, zero, suc, ◌+◌, ◌-◌, ◌*◌, ◌^◌, ◌<◌, ◌≤◌, not, T, sym, refl, ap, ◌∙◌, subst, inl}
use Rattle.std.proofs.Common.{inr, mul_assoc, mul-le-mul, mul-lt-mul_of_pos_right, lt_of_not-le, mul-div_cancel}
use Rattle.std.proofs.Common.{add-one, arith, lit<, eqb→eq, leb→le}
use Rattle.std.specs.Float.Ieee.{nearest}
use Rattle.std.proofs.Math.Nat.{one-le-pow}
use Rattle.std.proofs.Math.Dec.{is_le, compare_is_eq, nleb→lt}
use Rattle.std.proofs.lemmas.Bool.{cases_lt}
use Prim.Native.Nat.{compare, Ordering}
use Rattle.roots.specs.SquareRoot.{whole_root, rounded_root}
use Rattle.roots.specs.SquareRoot.Open.{rounded_root_is}
use Rattle.roots.specs.Steps.{WholeRoot, NearestWhole}
use Rattle.roots.proofs.RootWhole.{IsRoot, whole_root_law, root_unique}

nearest_down : (q a b : ℕ) → a < b → nearest q (compare a b) ≡ q
nearest_down q a b h = go (compare a b) (nleb→lt a b) (eqb→eq a b)
  where
    go : (o : Ordering) → (T (not (is_le o)) → b < a) → (T (compare_is_eq o) → a ≡ b) → nearest q o ≡ q
    go Ordering.lt more same = refl
    go Ordering.eq more same = let e = same tt in absurd (omega arith)
    go Ordering.gt more same = let g = more tt in absurd (omega arith)

nearest_up : (q a b : ℕ) → b < a → nearest q (compare a b) ≡ suc q
nearest_up q a b h = go (compare a b) (leb→le a b)
  where
    go : (o : Ordering) → (T (is_le o) → a ≤ b) → nearest q o ≡ suc q
    go Ordering.lt less = let g = less tt in absurd (omega arith)
    go Ordering.eq less = let g = less tt in absurd (omega arith)
    go Ordering.gt less = refl

pub four_pos : (c : ℕ) → 0 < 4 ^ c
four_pos c = one-le-pow c 4 (lit< tt)

-- comparisons of multiples
pub less_scaled : (x y p : ℕ) → 0 < p → 4 * x < y → 4 * (x * p) < y * p
less_scaled x y p P h = rw (← mul_assoc 4 x p) (mul-lt-mul_of_pos_right h P)

pub more_scaled : (x y p : ℕ) → 0 < p → y < 4 * x → y * p < 4 * (x * p)
more_scaled x y p P h = rw (← mul_assoc 4 x p) (mul-lt-mul_of_pos_right h P)

module _ (x q c : ℕ) (r : IsRoot x q) where
  compared : rounded_root (x * 4 ^ c) c ≡ nearest q (compare (4 * (x * 4 ^ c)) ((2 * q + 1) * (2 * q + 1) * 4 ^ c))
  compared =
      rounded_root_is (x * 4 ^ c) c
      ∙ ap (λ (p : ℕ). nearest p (compare (4 * (x * 4 ^ c)) ((2 * p + 1) * (2 * p + 1) * 4 ^ c)))
      (ap whole_root (mul-div_cancel x (four_pos c)) ∙ root_unique x (whole_root x) q (whole_root_law x) r)

  rounds_down : x ≤ q * q + q → rounded_root (x * 4 ^ c) c ≡ q
  rounds_down h =
      compared
      ∙ nearest_down q (4 * (x * 4 ^ c)) ((2 * q + 1) * (2 * q + 1) * 4 ^ c) (less_scaled x ((2 * q + 1) * (2 * q + 1)) (4 ^ c) (four_pos c) (omega arith))

  rounds_up : q * q + q < x → rounded_root (x * 4 ^ c) c ≡ suc q
  rounds_up h =
      compared
      ∙ nearest_up q (4 * (x * 4 ^ c)) ((2 * q + 1) * (2 * q + 1) * 4 ^ c) (more_scaled x ((2 * q + 1) * (2 * q + 1)) (4 ^ c) (four_pos c) (omega arith))

-- ---- the rounded root q of an x of 105 or 106 digits: it has 53 digits, and x lies between the squares of q - 1/2 and q + 1/2

pub record Rounded (x q : ℕ) : Type 0 where
  pub least : 2 ^ 52 ≤ q
  pub most : q < 2 ^ 53
  pub low : 4 * (q * q) + 1 < 4 * x + 4 * q
  pub high : 4 * x < 4 * (q * q) + 4 * q + 1
  pub edge : q ≡ 2 ^ 52 → q * q ≤ x

module _ (x : ℕ) (large : 2 ^ 104 ≤ x) (small : x ≤ 2 ^ 106 - 2 ^ 53) where
  root_least : (q : ℕ) → IsRoot x q → 2 ^ 52 ≤ q
  root_least q r = lt_of_not-le (λ (g : q ≤ 2 ^ 52 - 1). let k : q * q ≤ (2 ^ 52 - 1) * (2 ^ 52 - 1) = mul-le-mul g g in omega arith)

  root_most : (q : ℕ) → IsRoot x q → q < 2 ^ 53
  root_most q r = lt_of_not-le (λ (g : 2 ^ 53 ≤ q). let k : 2 ^ 53 * 2 ^ 53 ≤ q * q = mul-le-mul g g in omega arith)

  up_most : (q : ℕ) → q * q + q < x → q < 2 ^ 53 - 1
  up_most q h = lt_of_not-le (λ (g : 2 ^ 53 - 1 ≤ q). let k : (2 ^ 53 - 1) * (2 ^ 53 - 1) ≤ q * q = mul-le-mul g g in omega arith)

  pub rounded : (c : ℕ) → Rounded x (rounded_root (x * 4 ^ c) c)
  rounded c = go (whole_root x) (whole_root_law x)
    where
      go : (q : ℕ) → IsRoot x q → Rounded x (rounded_root (x * 4 ^ c) c)
      go q r = elim (cases_lt (q * q + q) x) [
        | inl h ↦
            let a = root_least q r in
            let b = up_most q h in
            rw (rounds_up x q c r h) (record { least = omega arith; most = omega arith; low = omega arith; high = omega arith; edge = λ e. absurd (omega arith) })
        | inr h ↦
            let a = root_least q r in
            rw (rounds_down x q c r h) (record { least = a; most = root_most q r; low = omega arith; high = omega arith; edge = λ e. r.least })
      ]

-- ---- the whole number nearest to the root of radicand * 2 ^ 52

module _ (radicand root : ℕ) (large : 2 ^ 52 ≤ radicand) (small : radicand < 2 ^ 54 - 1) (w : IsRoot (radicand * 2 ^ 52) root) where
  nearest_whole : (r : ℕ) → ((c : ℕ) → rounded_root (radicand * 2 ^ 52 * 4 ^ c) c ≡ r) → NearestWhole radicand r
  nearest_whole r e =
      let k = subst (λ (q : ℕ). Rounded (radicand * 2 ^ 52) q) (e 0) (rounded (radicand * 2 ^ 52) (omega arith) (omega arith) 0) in
      record { value = λ c. sym (e c); least = k.least; most = k.most }

  pub nearest_above : root * root + root < radicand * 2 ^ 52 → NearestWhole radicand (root + 1)
  nearest_above h = nearest_whole (root + 1) (λ c. rounds_up (radicand * 2 ^ 52) root c w h ∙ sym (add-one root))

  pub nearest_below : radicand * 2 ^ 52 ≤ root * root + root → NearestWhole radicand root
  nearest_below h = nearest_whole root (λ c. rounds_down (radicand * 2 ^ 52) root c w h)

-- r is nearest where the number lies between the squares of r - 1/2 and r + 1/2
pub nearest_between : (radicand r : ℕ) → 2 ^ 52 ≤ radicand → radicand < 2 ^ 54 - 1 → r * r < radicand * 2 ^ 52 + r → radicand * 2 ^ 52 ≤ r * r + r
    → NearestWhole radicand r
nearest_between radicand zero l h a b = absurd (omega arith)
nearest_between radicand (suc p) l h a b = elim (cases_lt (radicand * 2 ^ 52) (suc p * suc p)) [
  | inl k ↦ rw add-one at (nearest_above radicand p l h (record { least = omega arith; next = omega arith }) (omega arith))
  | inr k ↦ nearest_below radicand (suc p) l h (record { least = k; next = omega arith }) b
]

-- the digits' root and remainder
pub is_root : (radicand root remainder : ℕ) → WholeRoot radicand root remainder → IsRoot (radicand * 2 ^ 52) root
is_root radicand root remainder w = record { least = omega arith; next = omega arith }
