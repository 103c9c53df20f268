-- Tests of naturals, and of fractions over one denominator: they do not turn on the denominator.
use Rattle.std.proofs.Common.{◌≡◌, sym, ap, ◌∙◌, subst, inl, inr, ℕ, ◌+◌, ◌-◌, ◌*◌, ◌≤◌, ◌<◌}
use Rattle.std.proofs.Common.{le_of_eq, le_of_lt, mul_comm, mul_assoc, mul_right_comm, add-mul, mul-lt-mul_of_pos_right}
use Rattle.std.proofs.Common.{lt_of_mul-lt-mul_right, true, ◌&&◌, ◌||◌, T, ltb, eqb, ltb→lt, lt→ltb}
use Rattle.std.proofs.Common.{eqb→eq}
use Rattle.std.proofs.Math.Nat.{mul-sub, eq_of_mul-eq-mul_right}
use Rattle.std.specs.Float.Ieee.Fits.{eq→eqb, and_l}
use Rattle.std.proofs.Math.Facts.{or_yes}
use Rattle.floats.proofs.Booleans.{same_test}

pub le_of_tests : (a b : ℕ) → T (ltb a b || (eqb a b && true)) → a ≤ b
le_of_tests a b t = elim (or_yes (ltb a b) (eqb a b && true) t) [ inl u ↦ le_of_lt (ltb→lt a b u) | inr u ↦ le_of_eq (eqb→eq a b (and_l (eqb a b) true u)) ]

lt_scale : (A B C a b c : ℕ) → 0 < C → 0 < c → A * c ≡ a * C → B * c ≡ b * C → A < B → a < b
lt_scale A B C a b c P p x y h = lt_of_mul-lt-mul_right C (subst (λ (z : ℕ). z < b * C) x (subst (λ (z : ℕ). A * c < z) y (mul-lt-mul_of_pos_right h p)))

pub ltb_same : (A B C a b c : ℕ) → 0 < C → 0 < c → A * c ≡ a * C → B * c ≡ b * C → ltb A B ≡ ltb a b
ltb_same A B C a b c P p x y =
    same_test (ltb A B) (ltb a b)
    (λ t. lt→ltb a b (lt_scale A B C a b c P p x y (ltb→lt A B t)))
    (λ t. lt→ltb A B (lt_scale a b c A B C p P (sym x) (sym y) (ltb→lt a b t)))

pub eqb_same : (A B C a b c : ℕ) → 0 < C → 0 < c → A * c ≡ a * C → B * c ≡ b * C → eqb A B ≡ eqb a b
eqb_same A B C a b c P p x y =
    same_test (eqb A B) (eqb a b)
    (λ t. eq→eqb (eq_of_mul-eq-mul_right C P a b (sym x ∙ ap (λ (z : ℕ). z * c) (eqb→eq A B t) ∙ y)))
    (λ t. eq→eqb (eq_of_mul-eq-mul_right c p A B (x ∙ ap (λ (z : ℕ). z * C) (eqb→eq a b t) ∙ sym y)))

pub add_scale : (A B C a b c : ℕ) → A * c ≡ a * C → B * c ≡ b * C → (A + B) * c ≡ (a + b) * C
add_scale A B C a b c x y = add-mul A B c ∙ ap (λ (z : ℕ). z + B * c) x ∙ ap (λ (z : ℕ). a * C + z) y ∙ sym (add-mul a b C)

pub sub_mul : (a b c : ℕ) → (a - b) * c ≡ a * c - b * c
sub_mul a b c = mul_comm (a - b) c ∙ mul-sub c a b ∙ ap (λ (z : ℕ). z - c * b) (mul_comm c a) ∙ ap (λ (z : ℕ). a * c - z) (mul_comm c b)

pub sub_scale : (A B C a b c : ℕ) → A * c ≡ a * C → B * c ≡ b * C → (A - B) * c ≡ (a - b) * C
sub_scale A B C a b c x y = sub_mul A B c ∙ ap (λ (z : ℕ). z - B * c) x ∙ ap (λ (z : ℕ). a * C - z) y ∙ sym (sub_mul a b C)

pub scale_l : (X d a e c : ℕ) → X * c ≡ a * e → X * d * c ≡ a * (e * d)
scale_l X d a e c v = mul_right_comm X d c ∙ ap (λ (z : ℕ). z * d) v ∙ mul_assoc a e d

pub scale_r : (Y e b d c : ℕ) → Y * c ≡ b * d → Y * e * c ≡ b * (e * d)
scale_r Y e b d c w = scale_l Y e b d c w ∙ ap (λ (z : ℕ). b * z) (mul_comm d e)
