-- A sum of mirror images with one sign is a mirror image with that sign. Where the exact sum is 0, both rounded sums are
-- zeros, and their signs may go either way.
use Rattle.std.proofs.Common.{◌≡◌, refl, sym, ap, ◌∙◌, ◌⊎◌, inl, inr, ℕ, ◌+◌, ◌-◌, ◌*◌, ◌≤◌, ◌<◌, zero-mul, mul-pos}
use Rattle.std.proofs.Common.{mul_assoc, mul_right_comm, arith, Bool, true, false, not, ◌&&◌, cond, T, ltb, ltb→lt}
use Rattle.std.proofs.Common.{nltb→le, Float}
use Rattle.std.proofs.Math.Bool.{beq}
use Rattle.std.specs.Float.Ieee.{nan, inf, fin, binary64, neg, add, round, unlike}
use Rattle.std.specs.Float.Ieee.Exact.{HasValue}
use Rattle.floats.specs.Operations.{◌⊕◌}
use Rattle.floats.proofs.Values.{rescale, neg_value}
use Rattle.floats.proofs.Arithmetic.{add_at}
use Rattle.floats.proofs.Monotone.{sum_sign, sum_size, sum_round}
use Rattle.floats.proofs.Opposites.{unlike_false, unlike_not_r}
use Rattle.mirror_images.specs.Images.{MirrorOf}
use Rattle.mirror_images.proofs.Views.{Sized, View, no_numbers, infinite, sized, nan_images, infinite_images, rounded_images, only}

-- ---- with NaN, and with infinities

add_nan_l : (x : Float) → nan ⊕ x ≡ nan
unfolding add
add_nan_l x = refl

add_nan_r : (x : Float) → x ⊕ nan ≡ nan
unfolding add
add_nan_r nan = refl
add_nan_r (inf s) = refl
add_nan_r (fin s m e) = refl

add_inf_inf : (s t : Bool) → inf s ⊕ inf t ≡ cond (beq s t) (inf s) nan
unfolding add
add_inf_inf s t = refl

add_inf_l : (s : Bool) (y : Float) (t : Bool) (b d : ℕ) → HasValue y t b d → inf s ⊕ y ≡ inf s
unfolding add
add_inf_l s nan t b d w = absurd w
add_inf_l s (inf r) t b d w = absurd w
add_inf_l s (fin r n e) t b d w = refl

add_inf_r : (x : Float) (s : Bool) (a c : ℕ) (t : Bool) → HasValue x s a c → x ⊕ inf t ≡ inf t
unfolding add
add_inf_r nan s a c t v = absurd v
add_inf_r (inf r) s a c t v = absurd v
add_inf_r (fin r m e) s a c t v = refl

-- two signs differ just where both changed ones do
beq_unlike : (s t u : Bool) → beq (unlike s t) (unlike s u) ≡ beq t u
beq_unlike false t u = rw (unlike_false t, unlike_false u)
beq_unlike true true true = refl
beq_unlike true true false = refl
beq_unlike true false true = refl
beq_unlike true false false = refl

infinities : (s x y : Bool) → MirrorOf s (inf x ⊕ inf y) (inf (unlike s x) ⊕ inf (unlike s y))
infinities s x y = rw (add_inf_inf x y, add_inf_inf (unlike s x) (unlike s y), beq_unlike s x y) (go (beq x y))
  where
    go : (z : Bool) → MirrorOf s (cond z (inf x) nan) (cond z (inf (unlike s x)) nan)
    go true = infinite_images s x (unlike s x) (inf x) (inf (unlike s x)) refl refl refl
    go false = nan_images s nan nan refl refl

-- ---- sizes and signs of two sums: with a 0, and with both signs changed

record Same (s r q : Bool) (n m : ℕ) : Type 0 where
  size : m ≡ n
  signs : (n ≡ 0) ⊎ (q ≡ unlike s r)

zero_l : (t u : Bool) (b : ℕ) → (sum_size t 0 u b ≡ b) × ((b ≡ 0) ⊎ (sum_sign t 0 u b ≡ u))
zero_l t u b = go t u (ltb 0 b) (nltb→le 0 b)
  where
    go : (t u x : Bool) → (T (not x) → b ≤ 0)
        → (cond (beq t u) (0 + b) (cond x (b - 0) (0 - b)) ≡ b) × ((b ≡ 0) ⊎ (cond (beq t u) t (cond x u (t && ltb b 0)) ≡ u))
    go true true x h = (omega arith, inr refl)
    go false false x h = (omega arith, inr refl)
    go true false true h = (omega arith, inr refl)
    go false true true h = (omega arith, inr refl)
    go true false false h = let z : b ≡ 0 = omega (arith, h tt) in (omega arith, inl z)
    go false true false h = let z : b ≡ 0 = omega (arith, h tt) in (omega arith, inl z)

zero_r : (t u : Bool) (a : ℕ) → (sum_size t a u 0 ≡ a) × ((a ≡ 0) ⊎ (sum_sign t a u 0 ≡ t))
zero_r t u a = go t u (ltb a 0) (ltb 0 a) (ltb→lt a 0) (nltb→le 0 a)
  where
    go : (t u x y : Bool) → (T x → a < 0) → (T (not y) → a ≤ 0)
        → (cond (beq t u) (a + 0) (cond x (0 - a) (a - 0)) ≡ a) × ((a ≡ 0) ⊎ (cond (beq t u) t (cond x u (t && y)) ≡ t))
    go true true x y h k = (omega arith, inr refl)
    go false false x y h k = (omega arith, inr refl)
    go true false true y h k = absurd (omega (arith, h tt))
    go false true true y h k = absurd (omega (arith, h tt))
    go true false false true h k = (omega arith, inr refl)
    go true false false false h k = let z : a ≡ 0 = omega (arith, k tt) in (omega arith, inl z)
    go false true false y h k = (omega arith, inr refl)

-- the signs of two sums that are those of one operand each
signs_by : (s : Bool) (n : ℕ) (r q u u' : Bool) → (n ≡ 0) ⊎ (r ≡ u) → (n ≡ 0) ⊎ (q ≡ u') → (n ≡ 0) ⊎ (u' ≡ unlike s u) → (n ≡ 0) ⊎ (q ≡ unlike s r)
signs_by s n r q u u' (inl z) h k = inl z
signs_by s n r q u u' (inr g) (inl z) k = inl z
signs_by s n r q u u' (inr g) (inr h) (inl z) = inl z
signs_by s n r q u u' (inr g) (inr h) (inr k) = inr (h ∙ k ∙ ap (unlike s) (sym g))

both : (s t u : Bool) (a b : ℕ)
    → Same s (sum_sign t a u b) (sum_sign (unlike s t) a (unlike s u) b) (sum_size t a u b) (sum_size (unlike s t) a (unlike s u) b)
both s t u a b = rw (beq_unlike s t u) (go (beq t u) (ltb a b) (ltb b a) (nltb→le a b) (nltb→le b a))
  where
    one_sign : (s t : Bool) → (unlike s t && true) ≡ unlike s (t && true)
    one_sign true true = refl
    one_sign true false = refl
    one_sign false true = refl
    one_sign false false = refl

    go : (z x y : Bool) → (T (not x) → b ≤ a) → (T (not y) → a ≤ b)
        → Same s (cond z t (cond x u (t && y))) (cond z (unlike s t) (cond x (unlike s u) (unlike s t && y)))
        (cond z (a + b) (cond x (b - a) (a - b))) (cond z (a + b) (cond x (b - a) (a - b)))
    go true x y h k = record { size = refl; signs = inr refl }
    go false true y h k = record { size = refl; signs = inr refl }
    go false false true h k = record { size = refl; signs = inr (one_sign s t) }
    go false false false h k = let z : a - b ≡ 0 = omega (arith, h tt, k tt) in record { size = refl; signs = inl z }

same_sum : (s t u t' u' : Bool) (a b : ℕ) → (a ≡ 0) ⊎ (t' ≡ unlike s t) → (b ≡ 0) ⊎ (u' ≡ unlike s u)
    → Same s (sum_sign t a u b) (sum_sign t' a u' b) (sum_size t a u b) (sum_size t' a u' b)
same_sum s t u t' u' a b (inl e) h =
    rw e
    (let p = zero_l t u b in
    let q = zero_l t' u' b in
    record { size = q.0 ∙ sym p.0; signs = rw p.0 (signs_by s b _ _ u u' p.1 q.1 h) })
same_sum s t u t' u' a b (inr e) (inl z) =
    rw z
    (let p = zero_r t u a in
    let q = zero_r t' u' a in
    record { size = q.0 ∙ sym p.0; signs = rw p.0 (signs_by s a _ _ t t' p.1 q.1 (inr e)) })
same_sum s t u t' u' a b (inr e) (inr h) = rw (e, h) (both s t u a b)

-- ---- two sizes over one denominator

sum_views : (s : Bool) (a a' b b' : Float) (v : Sized s a a') (w : Sized s b b') → MirrorOf s (a ⊕ b) (a' ⊕ b')
sum_views s a a' b b' v w =
    let c = v.c * w.c in
    let C = mul-pos v.positive w.positive in
    let m = v.m * w.c in
    let n = w.m * v.c in
    let one_over : v.m * c ≡ m * v.c = sym (mul_assoc v.m v.c w.c) ∙ mul_right_comm v.m v.c w.c in
    let other_over : w.m * c ≡ n * w.c = sym (mul_assoc w.m v.c w.c) in
    let k = same_sum s v.t w.t v.u w.u m n (none v.m w.c v.signs) (none w.m v.c w.signs) in
    let at : (x y : Float) (t u : Bool) → HasValue x t v.m v.c → HasValue y u w.m w.c → x ⊕ y ≡ round binary64 (sum_sign t m u n) (sum_size t m u n) c =
    λ x y t u p q. add_at binary64 x y t m u n c C (rescale x t v.m v.c m c v.positive one_over p) (rescale y u w.m w.c n c w.positive other_over q)
    ∙ sum_round binary64 t m u n c in
    rounded_images s (sum_sign v.t m w.t n) (sum_sign v.u m w.u n) (sum_size v.t m w.t n) c _ _ C
    (at a b v.t w.t v.left w.left)
    (at a' b' v.u w.u v.right w.right ∙ ap (λ (z : ℕ). round binary64 (sum_sign v.u m w.u n) z c) k.size)
    k.signs
  where
    none : (m c : ℕ) {A : Type 0} → (m ≡ 0) ⊎ A → (m * c ≡ 0) ⊎ A
    none m c (inl e) = inl (ap (λ (z : ℕ). z * c) e ∙ zero-mul c)
    none m c (inr a) = inr a

-- ---- the sum, and the opposites for a difference

pub add_views : (s : Bool) (a a' b b' : Float) → View s a a' → View s b b' → MirrorOf s (a ⊕ b) (a' ⊕ b')
add_views s a a' b b' (no_numbers p q) w = nan_images s _ _ (rw p (add_nan_l b)) (rw q (add_nan_l b'))
add_views s a a' b b' (infinite x y h p q) (no_numbers i j) = nan_images s _ _ (rw i (add_nan_r a)) (rw j (add_nan_r a'))
add_views s a a' b b' (infinite x y h p q) (infinite x' y' h' p' q') = rw (p, p', q, q', h, h') (infinities s x x')
add_views s a a' b b' (infinite x y h p q) (sized w) =
    infinite_images s x y _ _ h (rw p (add_inf_l x b w.t w.m w.c w.left)) (rw q (add_inf_l y b' w.u w.m w.c w.right))
add_views s a a' b b' (sized v) (no_numbers i j) = nan_images s _ _ (rw i (add_nan_r a)) (rw j (add_nan_r a'))
add_views s a a' b b' (sized v) (infinite x y h p q) =
    infinite_images s x y _ _ h (rw p (add_inf_r a v.t v.m v.c x v.left)) (rw q (add_inf_r a' v.u v.m v.c y v.right))
add_views s a a' b b' (sized v) (sized w) = sum_views s a a' b b' v w

pub neg_views : (s : Bool) (a a' : Float) → View s a a' → View s (neg a) (neg a')
unfolding neg
neg_views s a a' (no_numbers p q) = no_numbers (ap neg p) (ap neg q)
neg_views s a a' (infinite x y h p q) = infinite (not x) (not y) (ap not h ∙ sym (unlike_not_r s x)) (ap neg p) (ap neg q)
neg_views s a a' (sized v) =
    sized
    (record {
      t = not v.t;
      u = not v.u;
      m = v.m;
      c = v.c;
      positive = v.positive;
      left = neg_value a v.t v.m v.c v.left;
      right = neg_value a' v.u v.m v.c v.right;
      signs = only v.m v.signs (λ e. ap not e ∙ sym (unlike_not_r s v.t));
    })
