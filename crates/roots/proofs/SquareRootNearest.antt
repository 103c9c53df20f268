-- The square root is the nearest float, and no other is as near. A float above 0 has 53 digits at some exponent, and they give the scale of its root;
-- there the root is rounded, and its middle with each other float is compared with it.
use Rattle.std.proofs.Common.{◌≡◌, ℕ, zero, suc, ◌+◌, ◌-◌, ◌*◌, ◌/◌, ◌%◌, ◌^◌, ◌<◌, ◌≤◌, Bool, true, false, T, sym}
use Rattle.std.proofs.Common.{refl, ap, ◌∙◌, subst, le_trans, le_of_eq, le_refl, lt_of_lt_of_le, lt_of_le_of_lt}
use Rattle.std.proofs.Common.{le_of_lt, lt_irrefl, mul-le-mul_right, mul-le-mul, mul-lt-mul_of_pos_right}
use Rattle.std.proofs.Common.{mul-pos, lt_of_not-le, zero-mul, arith, pow_pos, pow_mono, pow-add}
use Rattle.std.specs.Float.{Float, binary64}
use Rattle.std.specs.Float.Ieee.{size, fits}
use Rattle.std.specs.Float.Ieee.Exact.{HasValue, odd_sign}
use Rattle.std.proofs.Math.Nat.{eq_of_mul-eq-mul_right}
use Rattle.std.specs.Float.Ieee.Digits.{size-lt, size_reaches, size-le}
use Rattle.std.specs.Float.Ieee.Fits.{odd-fits}
use Rattle.std.proofs.Math.Arith.{lt-one}
use Rattle.floats.proofs.Powers.{shl_shl}
use Rattle.floats.proofs.Values.{value_finite, cross}
use Rattle.floats.proofs.Rounding.{on_grid}
use Rattle.roots.specs.SquareRoot.{square_root, rounded_root, root_of_units}
use Rattle.roots.specs.NearestRoot.{NearestRoot}
use Rattle.roots.specs.Steps.{Normal}
use Rattle.roots.proofs.RootRounding.{Rounded, rounded}
use Rattle.roots.proofs.RootScale.{Scale, parity_scale, root_at_scale}
use Rattle.roots.proofs.RootPatterns.{root_of_value}
use Rattle.roots.proofs.SquareRootMiddles.{middle_above, middle_below}

-- ---- the units of a float are a number of at most 53 digits with some zeros

record Digits (n : ℕ) : Type 0 where
  significand : ℕ
  exponent : ℕ
  few : significand < 2 ^ 53
  value : n ≡ significand * 2 ^ exponent
  room : n < 2 ^ 2098

digits : (y : Float) (s : Bool) (n : ℕ) → T (fits binary64 y) → HasValue y s n (2 ^ 1074) → Digits n
digits y s n h v =
    let g = on_grid binary64 y h (value_finite y s n (2 ^ 1074) v) in
    let e : n ≡ g.q * 2 ^ g.j = eq_of_mul-eq-mul_right (2 ^ 1074) (pow_pos 1074) n (g.q * 2 ^ g.j)
    (cross y s g.sign n (2 ^ 1074) (g.q * 2 ^ g.j) (2 ^ 1074) v g.value) in
    record { significand = g.q; exponent = g.j; few = g.small; value = e; room = subst (λ (k : ℕ). k < 2 ^ 2098) (sym e) g.in_range }

-- ---- brought to exactly 53 digits: q * 2 ^ j with q of d + 1 digits

module _ (n q j d : ℕ) (is : size q ≡ suc d) (value : n ≡ q * 2 ^ j) (room : n < 2 ^ 2098) (few : d < 53) where
  to_53 : q * 2 ^ (52 - d) * 2 ^ (j + suc d) ≡ n * 2 ^ 53
  to_53 =
      shl_shl q (52 - d) (j + suc d)
      ∙ ap (λ (k : ℕ). q * 2 ^ k) (omega arith)
      ∙ sym (shl_shl q j 53)
      ∙ ap (λ (k : ℕ). k * 2 ^ 53) (sym value)

  least_53 : 2 ^ 52 ≤ q * 2 ^ (52 - d)
  least_53 =
      le_trans (le_of_eq (ap (λ (k : ℕ). 2 ^ k) {x = 52} (omega arith) ∙ pow-add 2 d (52 - d)))
      (mul-le-mul_right (2 ^ (52 - d)) (size_reaches q d (subst (λ (k : ℕ). d < k) (sym is) (le_refl (suc d)))))

  most_53 : q * 2 ^ (52 - d) < 2 ^ 53
  most_53 =
      lt_of_lt_of_le (mul-lt-mul_of_pos_right (subst (λ (k : ℕ). q < 2 ^ k) is (size-lt q)) (pow_pos (52 - d)))
      (le_of_eq (sym (pow-add 2 (suc d) (52 - d)) ∙ ap (λ (k : ℕ). 2 ^ k) {y = 53} (omega arith)))

  normal : Normal n (q * 2 ^ (52 - d)) (j + suc d)
  normal = record {
    value = to_53;
    least = least_53;
    most = most_53;
    room = lt_of_not-le (λ (g : 2099 ≤ j + suc d). lt_irrefl (n * 2 ^ 53)
        (lt_of_lt_of_le (mul-lt-mul_of_pos_right room (pow_pos 53)) (le_trans (mul-le-mul least_53 (pow_mono g)) (le_of_eq to_53))));
  }

normal_of : (n : ℕ) → 0 < n → Digits n → (m : ℕ) × (h : ℕ) × Normal n m h
normal_of n p f = go (size f.significand) refl (size-le f.significand 53 f.few)
  where
    go : (d : ℕ) → size f.significand ≡ d → d ≤ 53 → (m : ℕ) × (h : ℕ) × Normal n m h
    go zero e h =
        let z = lt-one (subst (λ (d : ℕ). f.significand < 2 ^ d) e (size-lt f.significand)) in
        absurd (lt_irrefl 0 (subst (λ (k : ℕ). 0 < k) (f.value ∙ ap (λ (k : ℕ). k * 2 ^ f.exponent) z ∙ zero-mul (2 ^ f.exponent)) p))
    go (suc d) e h = (f.significand * 2 ^ (52 - d), f.exponent + suc d, normal n f.significand f.exponent d e f.value f.room h)

-- ---- at the scale of the root

module _ (n radicand c : ℕ) (s : Scale n radicand c) where
  abbrev x : ℕ
  x = radicand * 2 ^ 52

  abbrev q : ℕ
  q = rounded_root (radicand * 2 ^ 52 * 4 ^ c) c

  near : Rounded x q
  near = go s.least s.most
    where
      go : 2 ^ 52 ≤ radicand → radicand < 2 ^ 54 - 1 → Rounded x q
      go l h = rounded x (omega arith) (omega arith) c

  in_range : q * 2 ^ c < 2 ^ 2098
  in_range = lt_of_lt_of_le (mul-lt-mul_of_pos_right near.most (pow_pos c)) (le_trans (le_of_eq (sym (pow-add 2 53 c))) (pow_mono {j = 2098} (omega (arith, s.room))))

  root_nearest : NearestRoot (root_of_units n) n
  root_nearest = rw (root_at_scale n radicand c s) (record {
    held = odd-fits binary64 53 false q c near.most (le_of_lt near.most) in_range;
    units = q * 2 ^ c;
    value = odd_sign 53 false q c 1074;
    above = above;
    below = below;
    negative = negative;
  })
    where
      above : (y : Float) (k : ℕ) → T (fits binary64 y) → HasValue y false k (2 ^ 1074) → q * 2 ^ c < k → 4 * (n * 2 ^ 1074) < (k + q * 2 ^ c) * (k + q * 2 ^ c)
      above y k h v g = let f = digits y false k h v in
          rw (s.value, f.value) (middle_above x q c f.significand f.exponent near f.few (rw f.value at g))

      below : (y : Float) (k : ℕ) → T (fits binary64 y) → HasValue y false k (2 ^ 1074) → k < q * 2 ^ c → (k + q * 2 ^ c) * (k + q * 2 ^ c) < 4 * (n * 2 ^ 1074)
      below y k h v g = let f = digits y false k h v in
          rw (s.value, f.value) (middle_below x q c f.significand f.exponent near f.few (rw f.value at g))

      -- the middle of y and r is not above the middle of 0 and r
      negative : (y : Float) (k : ℕ) → T (fits binary64 y) → HasValue y true k (2 ^ 1074) → (q * 2 ^ c - k) * (q * 2 ^ c - k) < 4 * (n * 2 ^ 1074)
      negative y k h v =
          lt_of_le_of_lt (mul-le-mul (less (q * 2 ^ c)) (less (q * 2 ^ c)))
          (rw s.value (middle_below x q c 0 0 near (pow_pos 53) (mul-pos (lt_of_lt_of_le (pow_pos 52) near.least) (pow_pos c))))
        where
          less : (r : ℕ) → r - k ≤ 0 + r
          less r = omega arith

scale : (n : ℕ) → 0 < n → Digits n → (radicand : ℕ) × (c : ℕ) × Scale n radicand c
scale n p f = go (normal_of n p f).0 (normal_of n p f).1 (normal_of n p f).2
  where
    go : (m h : ℕ) → Normal n m h → (radicand : ℕ) × (c : ℕ) × Scale n radicand c
    go m h v = (m * (2 - h % 2), (h + 969) / 2, parity_scale n m h v)

-- ---- the theorem

pub square_root_nearest : (x : Float) (n : ℕ) → T (fits binary64 x) → HasValue x false n (2 ^ 1074) → 0 < n → NearestRoot (square_root x) n
square_root_nearest x n h v p =
    let s = scale n p (digits x false n h v) in
    rw (root_of_value x false n v p) (root_nearest n s.0 s.1 s.2)
