-- Lowest terms are the same number: the divisor that `lowest` takes divides both.
use Rattle.std.proofs.Common.{◌≡◌, refl, sym, ◌∙◌, ap, ℕ, zero, suc, ◌*◌, ◌/◌, ◌%◌, ◌≤◌, mod-lt, zero-lt-suc, le_trans}
use Rattle.std.proofs.Common.{le_of_suc-le-suc, not-suc-le-zero, mul_assoc, mul_left_comm, zero-mul, ℤ, pos, negsuc}
use Rattle.std.proofs.Common.{neg_ℤ, ◌*ℤ◌}
use Prim.Native.Nat.{◌∣◌}
use Rattle.std.proofs.Math.Nat.{dvd_refl, dvd-zero, dvd-mod_iff, le-suc, mul-div_cancel'}
use Rattle.expansion_coefficients.specs.Fractions.{numerator, denominator, divisor, lowest}

divides : (n a b : ℕ) → b ≤ n → (divisor n a b ∣ a) × (divisor n a b ∣ b)
divides zero a zero h = (dvd_refl a, dvd-zero a)
divides zero a (suc b) h = absurd (not-suc-le-zero h)
divides (suc n) a zero h = (dvd_refl a, dvd-zero a)
divides (suc n) a (suc b) h =
    let d = divides n (suc b) (a % suc b) (le_trans (le_of_suc-le-suc (mod-lt a (zero-lt-suc b))) (le_of_suc-le-suc h)) in
    ((dvd-mod_iff (divisor n (suc b) (a % suc b)) d.0).0 d.1, d.0)

crossed : (g n b : ℕ) → g ∣ n → g ∣ b → n / g * b ≡ n * (b / g)
crossed g n b h k =
    ap (λ (x : ℕ). n / g * x) (sym (mul-div_cancel' g k))
    ∙ mul_left_comm (n / g) g (b / g)
    ∙ sym (mul_assoc g (n / g) (b / g))
    ∙ ap (λ (x : ℕ). x * (b / g)) (mul-div_cancel' g h)

minus_times : (k b : ℕ) → neg_ℤ (pos k) *ℤ pos b ≡ neg_ℤ (pos (k * b))
minus_times zero b = ap pos (zero-mul b) ∙ sym (ap (λ (x : ℕ). neg_ℤ (pos x)) (zero-mul b))
minus_times (suc k) b = refl

-- `lowest a b` is a / b
pub same_value : (a : ℤ) (b : ℕ) → numerator (lowest a b) *ℤ pos b ≡ a *ℤ pos (denominator (lowest a b))
same_value (pos n) b =
    let d = divides (suc b) n b (le-suc b) in
    ap pos (crossed (divisor (suc b) n b) n b d.0 d.1)
same_value (negsuc n) b =
    let d = divides (suc b) (suc n) b (le-suc b) in
    minus_times (suc n / divisor (suc b) (suc n) b) b
    ∙ ap (λ (x : ℕ). neg_ℤ (pos x)) (crossed (divisor (suc b) (suc n) b) (suc n) b d.0 d.1)
