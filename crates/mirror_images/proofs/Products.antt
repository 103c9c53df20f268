-- A product of mirror images is a mirror image, and the signs multiply.
use Rattle.std.proofs.Common.{◌≡◌, refl, sym, ap, ◌∙◌, ◌⊎◌, inl, inr, ℕ, zero, suc, ◌*◌, ◌<◌, zero-mul, mul-zero}
use Rattle.std.proofs.Common.{mul-one, mul-pos, arith, Bool, false, cond, ne_eqb, eqb, ℤ, Float, zero-lt-suc}
use Rattle.std.specs.Float.Ieee.{nan, inf, fin, binary64, up, down, mul, unlike}
use Rattle.std.specs.Float.Ieee.Exact.{HasValue}
use Rattle.std.specs.Float.Ieee.Fits.{up_pos, down_pos}
use Rattle.floats.specs.Operations.{◌⊗◌}
use Rattle.floats.proofs.Tests.{eqb_same}
use Rattle.floats.proofs.Arithmetic.{mul_at}
use Rattle.floats.proofs.Opposites.{unlike_assoc, unlike_comm}
use Rattle.mirror_images.specs.Images.{MirrorOf}
use Rattle.mirror_images.proofs.Views.{View, no_numbers, infinite, sized, nan_images, infinite_images, rounded_images, only}

-- ---- with NaN, and with infinities

mul_nan_l : (x : Float) → nan ⊗ x ≡ nan
unfolding mul
mul_nan_l x = refl

mul_nan_r : (x : Float) → x ⊗ nan ≡ nan
unfolding mul
mul_nan_r nan = refl
mul_nan_r (inf s) = refl
mul_nan_r (fin s m e) = refl

mul_inf_inf : (s t : Bool) → inf s ⊗ inf t ≡ inf (unlike s t)
unfolding mul
mul_inf_inf s t = refl

same_zero : (n : ℕ) (e : ℤ) (b d : ℕ) → 0 < d → n * up e * d ≡ b * down e → eqb n 0 ≡ eqb b 0
same_zero n e b d D w =
    eqb_same n 0 1 (n * up e) 0 (up e) (zero-lt-suc 0) (up_pos e) (sym (mul-one (n * up e))) (zero-mul (up e) ∙ sym (zero-mul 1))
    ∙ eqb_same (n * up e) 0 (down e) b 0 d (down_pos e) D w (zero-mul d ∙ sym (zero-mul (down e)))

-- an infinity times a number is NaN where that is 0
mul_inf_l : (s : Bool) (y : Float) (t : Bool) (b d : ℕ) → 0 < d → HasValue y t b d → inf s ⊗ y ≡ cond (eqb b 0) nan (inf (unlike s t))
unfolding mul
mul_inf_l s nan t b d D w = absurd w
mul_inf_l s (inf r) t b d D w = absurd w
mul_inf_l s (fin r n e) t b d D w = rw (same_zero n e b d D w.1, w.0)

mul_inf_r : (x : Float) (s : Bool) (a c : ℕ) (t : Bool) → 0 < c → HasValue x s a c → x ⊗ inf t ≡ cond (eqb a 0) nan (inf (unlike s t))
unfolding mul
mul_inf_r nan s a c t C v = absurd v
mul_inf_r (inf r) s a c t C v = absurd v
mul_inf_r (fin r m e) s a c t C v = rw (same_zero m e a c C v.1, v.0)

unless_zero : (s p q : Bool) (m : ℕ) (a b : Float) → a ≡ cond (eqb m 0) nan (inf p) → b ≡ cond (eqb m 0) nan (inf q)
    → (m ≡ 0) ⊎ (q ≡ unlike s p) → MirrorOf s a b
unless_zero s p q zero a b u v h = nan_images s a b u v
unless_zero s p q (suc m) a b u v (inl e) = absurd (omega arith)
unless_zero s p q (suc m) a b u v (inr e) =
    let z : eqb (suc m) 0 ≡ false = ne_eqb (suc m) 0 (λ e. omega arith) in
    infinite_images s p q a b e (u ∙ ap (λ (w : Bool). cond w nan (inf p)) z) (v ∙ ap (λ (w : Bool). cond w nan (inf q)) z)

-- ---- the signs

either : (m n : ℕ) {A B C : Type 0} → (m ≡ 0) ⊎ A → (n ≡ 0) ⊎ B → (A → B → C) → (m * n ≡ 0) ⊎ C
either m n (inl e) h g = inl (ap (λ (z : ℕ). z * n) e ∙ zero-mul n)
either m n (inr a) (inl e) g = inl (ap (λ (z : ℕ). m * z) e ∙ mul-zero m)
either m n (inr a) (inr b) g = inr (g a b)

signs_join : (s t p q p' q' : Bool) → p' ≡ unlike s p → q' ≡ unlike t q → unlike p' q' ≡ unlike (unlike s t) (unlike p q)
signs_join s t p q p' q' e h =
    rw (e, h)
    (unlike_assoc s p (unlike t q)
    ∙ ap (unlike s) (sym (unlike_assoc p t q) ∙ ap (λ (z : Bool). unlike z q) (unlike_comm p t) ∙ unlike_assoc t p q)
    ∙ sym (unlike_assoc s t (unlike p q)))

-- ---- the product

pub mul_views : (s t : Bool) (a a' b b' : Float) → View s a a' → View t b b' → MirrorOf (unlike s t) (a ⊗ b) (a' ⊗ b')
mul_views s t a a' b b' (no_numbers p q) w = nan_images (unlike s t) _ _ (rw p (mul_nan_l b)) (rw q (mul_nan_l b'))
mul_views s t a a' b b' (infinite x y h p q) (no_numbers i j) = nan_images (unlike s t) _ _ (rw i (mul_nan_r a)) (rw j (mul_nan_r a'))
mul_views s t a a' b b' (infinite x y h p q) (infinite x' y' h' p' q') =
    infinite_images (unlike s t) (unlike x x') (unlike y y') _ _ (signs_join s t x x' y y' h h') (rw (p, p') (mul_inf_inf x x')) (rw (q, q') (mul_inf_inf y y'))
mul_views s t a a' b b' (infinite x y h p q) (sized w) =
    unless_zero (unlike s t) (unlike x w.t) (unlike y w.u) w.m _ _
    (rw p (mul_inf_l x b w.t w.m w.c w.positive w.left))
    (rw q (mul_inf_l y b' w.u w.m w.c w.positive w.right))
    (only w.m w.signs (λ e. signs_join s t x w.t y w.u h e))
mul_views s t a a' b b' (sized v) (no_numbers i j) = nan_images (unlike s t) _ _ (rw i (mul_nan_r a)) (rw j (mul_nan_r a'))
mul_views s t a a' b b' (sized v) (infinite x y h p q) =
    unless_zero (unlike s t) (unlike v.t x) (unlike v.u y) v.m _ _
    (rw p (mul_inf_r a v.t v.m v.c x v.positive v.left))
    (rw q (mul_inf_r a' v.u v.m v.c y v.positive v.right))
    (only v.m v.signs (λ e. signs_join s t v.t x v.u y e h))
mul_views s t a a' b b' (sized v) (sized w) =
    rounded_images (unlike s t) (unlike v.t w.t) (unlike v.u w.u) (v.m * w.m) (v.c * w.c) _ _ (mul-pos v.positive w.positive)
    (mul_at binary64 a b v.t v.m v.c w.t w.m w.c v.positive w.positive v.left w.left)
    (mul_at binary64 a' b' v.u v.m v.c w.u w.m w.c v.positive w.positive v.right w.right)
    (either v.m w.m v.signs w.signs (signs_join s t v.t w.t v.u w.u))
