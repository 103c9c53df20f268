-- The digits of a float at 53 places: a subnormal's are moved up, and any other pattern has them.
use Rattle.std.proofs.Common.{◌≡◌, ℕ, zero, suc, ◌+◌, ◌-◌, ◌*◌, ◌/◌, ◌%◌, ◌^◌, ◌<◌, ◌≤◌, sym, refl, ap, ◌∙◌, subst}
use Rattle.std.proofs.Common.{arith, pow-add, inl, inr, pow_mono, pow_pos, mul-le-mul_right}
use Rattle.std.proofs.Common.{mul-lt-mul_of_pos_right}
use Rattle.std.specs.Int.Count.{count_leading_zeros, leading_top}
use Rattle.std.proofs.lemmas.Bool.{cases_lt}
use Rattle.floats.proofs.Powers.{shl_shl}
use Rattle.roots.specs.Steps.{fields_magnitude, magnitude, Normal}

-- a fraction has from 1 to 52 digits, and is moved up by the rest of 53
pub zeros_before : (fraction : ℕ) → 0 < fraction → fraction < 2 ^ 52 → 11 ≤ count_leading_zeros 64 fraction
zeros_before fraction p h = let t = leading_top 64 fraction p (omega arith) in elim (cases_lt t.0 52) [
  | inl k ↦ omega (arith, t.1)
  | inr k ↦ let g : 2 ^ 52 ≤ 2 ^ t.0 = pow_mono k in absurd (omega (arith, t.2))
]

pub moved_up : (fraction exponent : ℕ) → 0 < fraction → fraction < 2 ^ 52 → exponent ≡ 53 - (count_leading_zeros 64 fraction - 11)
    → Normal fraction (fraction * 2 ^ (count_leading_zeros 64 fraction - 11) % 18446744073709551616) exponent
moved_up fraction exponent p h e = let t = leading_top 64 fraction p (omega arith) in go t.0 (count_leading_zeros 64 fraction - 11) (omega (arith, t.1, zeros_before fraction p h)) e t.2 t.3
  where
    go : (j shift : ℕ) → j + shift ≡ 52 → exponent ≡ 53 - shift → 2 ^ j ≤ fraction → fraction < 2 ^ suc j
        → Normal fraction (fraction * 2 ^ shift % 18446744073709551616) exponent
    go j shift s e a b =
        let q : suc j + shift ≡ 53 = omega arith in
        let r : shift + exponent ≡ 53 = omega arith in
        let least : 2 ^ 52 ≤ fraction * 2 ^ shift =
        subst (λ (k : ℕ). k ≤ fraction * 2 ^ shift) (sym (pow-add 2 j shift) ∙ ap (λ (k : ℕ). 2 ^ k) s) (mul-le-mul_right (2 ^ shift) a) in
        let most : fraction * 2 ^ shift < 2 ^ 53 =
        subst (λ (k : ℕ). fraction * 2 ^ shift < k) (sym (pow-add 2 (suc j) shift) ∙ ap (λ (k : ℕ). 2 ^ k) q) (mul-lt-mul_of_pos_right b (pow_pos shift)) in
        let plain : fraction * 2 ^ shift % 18446744073709551616 ≡ fraction * 2 ^ shift = omega arith in
        rw plain (record {
          value = shl_shl fraction shift exponent ∙ ap (λ (k : ℕ). fraction * 2 ^ k) r;
          least = least;
          most = most;
          room = omega arith;
        })

-- ---- the fields of a pattern

pub subnormal_pattern : (pattern significand exponent : ℕ) → pattern / 2 ^ 52 ≡ 0 → Normal (pattern % 2 ^ 52) significand exponent
    → Normal (magnitude pattern) significand exponent
subnormal_pattern pattern significand exponent h m = subst (λ (k : ℕ). Normal (fields_magnitude k (pattern % 2 ^ 52)) significand exponent) (sym h) m

pub normal_pattern : (pattern : ℕ) → ¬ (pattern / 2 ^ 52 ≡ 0) → pattern < 2047 * 2 ^ 52 → Normal (magnitude pattern) (2 ^ 52 + pattern % 2 ^ 52) (pattern / 2 ^ 52 + 52)
normal_pattern pattern p h = go (pattern / 2 ^ 52) (pattern % 2 ^ 52) p (omega arith) (omega arith)
  where
    go : (field fraction : ℕ) → ¬ (field ≡ 0) → field < 2047 → fraction < 2 ^ 52 → Normal (fields_magnitude field fraction) (2 ^ 52 + fraction) (field + 52)
    go zero fraction p h f = absurd (p refl)
    go (suc field) fraction p h f = record {
      value = ap (λ (k : ℕ). (2 ^ 52 + fraction) * 2 ^ k) (omega arith) ∙ sym (shl_shl (2 ^ 52 + fraction) field 53);
      least = omega arith;
      most = omega arith;
      room = omega arith;
    }

-- what `from_subnormal` and `from_pattern` take
pub ruleset normal_laws = (zeros_before, subnormal_pattern, normal_pattern)
