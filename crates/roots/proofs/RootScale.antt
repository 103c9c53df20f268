-- The scale of a root: n * 2 ^ 1074 is radicand * 2 ^ 52 * 4 ^ c, a number of 105 or 106 digits with 2 * c zeros behind it, so the definition drops c digits
-- of the root. At an even exponent the radicand is twice the significand.
use Rattle.std.proofs.Common.{◌≡◌, ℕ, zero, suc, ◌+◌, ◌-◌, ◌*◌, ◌/◌, ◌%◌, ◌^◌, ◌<◌, ◌≤◌, false, sym, refl, ap, ◌∙◌}
use Rattle.std.proofs.Common.{subst, le_trans, mul-le-mul_right, mul_assoc}
use Rattle.std.proofs.Common.{mul-lt-mul_of_pos_right, one-mul, mul-one, mul_right_comm, arith, lit≤}
use Rattle.std.proofs.Common.{pow-add, lt_of_le_of_lt}
use Rattle.std.specs.Float.Ieee.{size, odd}
use Rattle.std.specs.Float.Ieee.Digits.{size-lt, size-le}
use Rattle.std.proofs.lemmas.Nat.{mul-pow}
use Rattle.floats.proofs.Powers.{pow_lt_back, shl_shl}
use Rattle.roots.specs.SquareRoot.{rounded_root, dropped_digits, root_of_units}
use Rattle.roots.specs.SquareRoot.Open.{dropped_digits_is, root_of_units_is}
use Rattle.roots.specs.Steps.{Normal, NearestWhole, RootPattern}
use Rattle.roots.proofs.RootRounding.{four_pos}

pub four_pow : (c : ℕ) → 4 ^ c ≡ 2 ^ c * 2 ^ c
four_pow c = mul-pow 2 2 c

shifted : (k c : ℕ) → 2 ^ k * 4 ^ c ≡ 2 ^ (k + (c + c))
shifted k c = rw (pow-add 2 k (c + c), pow-add 2 c c, four_pow c)

-- a number of 105 or 106 digits with 2 * c zeros behind it
drops : (x c : ℕ) → 2 ^ 104 ≤ x → x < 2 ^ 106 → dropped_digits (x * 4 ^ c) ≡ c
drops x c l h = dropped_digits_is (x * 4 ^ c) ∙ half (size (x * 4 ^ c)) more less
  where
    less : size (x * 4 ^ c) ≤ 106 + (c + c)
    less = size-le (x * 4 ^ c) (106 + (c + c)) (subst (λ (y : ℕ). x * 4 ^ c < y) (shifted 106 c) (mul-lt-mul_of_pos_right h (four_pos c)))

    more : 104 + (c + c) < size (x * 4 ^ c)
    more = pow_lt_back (104 + (c + c)) (size (x * 4 ^ c)) (subst (λ (y : ℕ). y < 2 ^ size (x * 4 ^ c)) (shifted 104 c) (lt_of_le_of_lt (mul-le-mul_right (4 ^ c) l) (size-lt (x * 4 ^ c))))

    half : (k : ℕ) → 104 + (c + c) < k → k ≤ 106 + (c + c) → (k + 1) / 2 - 53 ≡ c
    half k a b = omega arith

-- n units at the scale c
pub record Scale (n radicand c : ℕ) : Type 0 where
  pub value : n * 2 ^ 1074 ≡ radicand * 2 ^ 52 * 4 ^ c
  pub least : 2 ^ 52 ≤ radicand
  pub most : radicand < 2 ^ 54 - 1
  pub room : c < 1534

pub root_at_scale : (n radicand c : ℕ) → Scale n radicand c → root_of_units n ≡ odd 53 false (rounded_root (radicand * 2 ^ 52 * 4 ^ c) c) c 1074
root_at_scale n radicand c s =
    root_of_units_is n
    ∙ ap (λ (x : ℕ). odd 53 false (rounded_root x (dropped_digits x)) (dropped_digits x) 1074) s.value
    ∙ ap (λ (d : ℕ). odd 53 false (rounded_root (radicand * 2 ^ 52 * 4 ^ c) d) d 1074) (dropped s.least s.most)
  where
    dropped : 2 ^ 52 ≤ radicand → radicand < 2 ^ 54 - 1 → dropped_digits (radicand * 2 ^ 52 * 4 ^ c) ≡ c
    dropped l h = drops (radicand * 2 ^ 52) c (omega arith) (omega arith)

pub pattern_at_scale : (n radicand c r : ℕ) → Scale n radicand c → NearestWhole radicand r → RootPattern n (c * 2 ^ 52 + r)
pattern_at_scale n radicand c r s w = record {
  exponent = c;
  significand = r;
  bits = refl;
  least = w.least;
  most = w.most;
  room = le_trans s.room (lit≤ tt);
  root = root_at_scale n radicand c s ∙ ap (λ (q : ℕ). odd 53 false q c 1074) (sym (w.value c));
}

-- ---- the scale of significand * 2 ^ exponent / 2 ^ 53, by the exponent's parity

module _ (n significand exponent : ℕ) (m : Normal n significand exponent) where
  scaled : (radicand c : ℕ) → radicand * 4 ^ c ≡ significand * 2 ^ (exponent + 969) → n * 2 ^ 1074 ≡ radicand * 2 ^ 52 * 4 ^ c
  scaled radicand c e = sym (
      mul_right_comm radicand (2 ^ 52) (4 ^ c)
      ∙ ap (λ (k : ℕ). k * 2 ^ 52)
      (e ∙ sym (shl_shl significand exponent 969) ∙ ap (λ (k : ℕ). k * 2 ^ 969) m.value ∙ mul_assoc n (2 ^ 53) (2 ^ 969))
      ∙ mul_assoc n (2 ^ 1022) (2 ^ 52))

  even_scale : exponent % 2 ≡ 0 → Scale n (significand * 2) ((exponent + 969) / 2)
  even_scale h = let c = (exponent + 969) / 2 in record {
    value = scaled (significand * 2) c
        (mul_assoc significand 2 (4 ^ c) ∙ ap (λ (k : ℕ). significand * k) (shifted 1 c) ∙ ap (λ (k : ℕ). significand * 2 ^ k) (omega arith));
    least = omega (arith, m.least);
    most = omega (arith, m.most);
    room = omega (arith, m.room);
  }

  odd_scale : ¬ (exponent % 2 ≡ 0) → Scale n significand ((exponent + 969) / 2)
  odd_scale h = let c = (exponent + 969) / 2 in record {
    value = scaled significand c
        (ap (λ (k : ℕ). significand * k) (sym (one-mul (4 ^ c)) ∙ shifted 0 c) ∙ ap (λ (k : ℕ). significand * 2 ^ k) (omega arith));
    least = m.least;
    most = omega (arith, m.most);
    room = omega (arith, m.room);
  }

  pub parity_scale : Scale n (significand * (2 - exponent % 2)) ((exponent + 969) / 2)
  parity_scale = go (exponent % 2) refl
    where
      go : (p : ℕ) → exponent % 2 ≡ p → Scale n (significand * (2 - p)) ((exponent + 969) / 2)
      go zero e = even_scale e
      go (suc zero) e = rw mul-one (odd_scale (λ z. omega arith))
      go (suc (suc p)) e = absurd (omega arith)

pub radicand_bounds : (significand parity : ℕ) → 2 ^ 52 ≤ significand → significand < 2 ^ 53 → parity < 2
    → (2 ^ 52 ≤ significand * (2 - parity)) × (significand * (2 - parity) < 2 ^ 54 - 1)
radicand_bounds significand zero l h p = (omega arith, omega arith)
radicand_bounds significand (suc zero) l h p = (omega arith, omega arith)
radicand_bounds significand (suc (suc parity)) l h p = absurd (omega arith)
