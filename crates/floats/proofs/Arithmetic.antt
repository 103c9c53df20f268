-- A sum, a difference, a product and a quotient, by any fractions that the operands equal.
use Rattle.std.proofs.Common.{◌≡◌, refl, sym, ap, ◌∙◌, subst, ℕ, zero, suc, ◌+◌, ◌-◌, ◌*◌, ◌≤◌, ◌<◌, lt_irrefl}
use Rattle.std.proofs.Common.{zero-lt-suc, zero-mul, mul-pos, Bool, true, false, not, ◌&&◌}
use Rattle.std.proofs.Common.{cond, ℤ, ltb, Float, ap₂, arith, le-ltb, ne_eqb}
use Rattle.std.specs.Float.{nan, inf, fin, Format}
use Rattle.std.specs.Float.Ieee.{up, down, round, neg, sum, add, sub, unlike, mul, div}
use Rattle.std.specs.Float.Ieee.Exact.{HasValue}
use Rattle.std.proofs.Math.Nat.{mul-mul-mul_comm}
use Rattle.std.specs.Float.Ieee.Fits.{up_pos, down_pos}
use Rattle.std.specs.Float.Ieee.Scale.{round_same}
use Rattle.std.proofs.Math.Bool.{beq}
use Rattle.floats.proofs.Tests.{ltb_same, add_scale, sub_scale, scale_l, scale_r}
use Rattle.floats.proofs.Values.{neg_value}

-- ---- a sum and a difference, over one denominator

pub sum_same : (f : Format) (s : Bool) (A : ℕ) (t : Bool) (B C a b c : ℕ) → 0 < C → 0 < c → A * c ≡ a * C → B * c ≡ b * C
    → sum f s A t B C ≡ sum f s a t b c
unfolding sum
sum_same f s A t B C a b c P p x y =
    ap (λ (z : Float). cond (beq s t) z (cond (ltb A B) (round f t (B - A) C) (round f (s && ltb B A) (A - B) C))) (round_same f s (A + B) C (a + b) c P p (add_scale A B C a b c x y))
    ∙ ap (λ (z : Bool). cond (beq s t) (round f s (a + b) c) (cond z (round f t (B - A) C) (round f (s && ltb B A) (A - B) C))) (ltb_same A B C a b c P p x y)
    ∙ ap (λ (z : Float). cond (beq s t) (round f s (a + b) c) (cond (ltb a b) z (round f (s && ltb B A) (A - B) C))) (round_same f t (B - A) C (b - a) c P p (sub_scale B A C b a c y x))
    ∙ ap (λ (z : Bool). cond (beq s t) (round f s (a + b) c) (cond (ltb a b) (round f t (b - a) c) (round f (s && z) (A - B) C))) (ltb_same B A C b a c P p y x)
    ∙ ap (λ (z : Float). cond (beq s t) (round f s (a + b) c) (cond (ltb a b) (round f t (b - a) c) z)) (round_same f (s && ltb b a) (A - B) C (a - b) c P p (sub_scale A B C a b c x y))

pub add_at : (f : Format) (x y : Float) (s : Bool) (a : ℕ) (t : Bool) (b c : ℕ) → 0 < c → HasValue x s a c → HasValue y t b c
    → add f x y ≡ sum f s a t b c
unfolding add
add_at f nan y s a t b c C v w = absurd v
add_at f (inf u) y s a t b c C v w = absurd v
add_at f (fin u m e) nan s a t b c C v w = absurd w
add_at f (fin u m e) (inf r) s a t b c C v w = absurd w
add_at f (fin u m e) (fin r n d) s a t b c C v w =
    sum_same f u (m * up e * down d) r (n * up d * down e) (down e * down d) a b c (mul-pos (down_pos e) (down_pos d)) C
    (scale_l (m * up e) (down d) a (down e) c v.1) (scale_r (n * up d) (down e) b (down d) c w.1)
    ∙ ap (λ (z : Bool). sum f z a r b c) v.0
    ∙ ap (λ (z : Bool). sum f s a z b c) w.0

pub sub_is : (f : Format) (x y : Float) → sub f x y ≡ add f x (neg y)
unfolding sub
sub_is f x y = refl

pub sub_at : (f : Format) (x y : Float) (s : Bool) (a : ℕ) (t : Bool) (b c : ℕ) → 0 < c → HasValue x s a c → HasValue y t b c
    → sub f x y ≡ sum f s a (not t) b c
sub_at f x y s a t b c C v w = sub_is f x y ∙ add_at f x (neg y) s a (not t) b c C v (neg_value y t b c w)

-- of two sizes of one sign
pub sum_plus : (f : Format) (s : Bool) (a b c : ℕ) → sum f s a s b c ≡ round f s (a + b) c
unfolding sum
sum_plus f true a b c = refl
sum_plus f false a b c = refl

-- a - b for b ≤ a, with the sign of a, and +0 where it is 0
pub sum_minus : (f : Format) (s : Bool) (a b c : ℕ) → b ≤ a → sum f s a (not s) b c ≡ round f (s && ltb b a) (a - b) c
unfolding sum
sum_minus f true a b c h = rw (le-ltb a b h)
sum_minus f false a b c h = rw (le-ltb a b h)

-- ---- a product

pub mul_at : (f : Format) (x y : Float) (s : Bool) (a c : ℕ) (t : Bool) (b d : ℕ) → 0 < c → 0 < d → HasValue x s a c → HasValue y t b d
    → mul f x y ≡ round f (unlike s t) (a * b) (c * d)
unfolding mul
mul_at f nan y s a c t b d C D v w = absurd v
mul_at f (inf u) y s a c t b d C D v w = absurd v
mul_at f (fin u m e) nan s a c t b d C D v w = absurd w
mul_at f (fin u m e) (inf r) s a c t b d C D v w = absurd w
mul_at f (fin u m e) (fin r n g) s a c t b d C D v w =
    round_same f (unlike u r) (m * up e * (n * up g)) (down e * down g) (a * b) (c * d) (mul-pos (down_pos e) (down_pos g)) (mul-pos C D)
    (mul-mul-mul_comm (m * up e) (n * up g) c d ∙ ap (λ (z : ℕ). z * (n * up g * d)) v.1 ∙ ap (λ (z : ℕ). a * down e * z) w.1 ∙ mul-mul-mul_comm a (down e) b (down g))
    ∙ ap (λ (z : Bool). round f (unlike z r) (a * b) (c * d)) v.0
    ∙ ap (λ (z : Bool). round f (unlike s z) (a * b) (c * d)) w.0

-- ---- a quotient, the divisor not 0

pub digits_pos : (n : ℕ) (g : ℤ) (b d : ℕ) → 0 < b → n * up g * d ≡ b * down g → 0 < n
digits_pos zero g b d B w = absurd (lt_irrefl 0 (subst (λ (z : ℕ). 0 < z) (sym w ∙ ap (λ (z : ℕ). z * d) (zero-mul (up g)) ∙ zero-mul d) (mul-pos B (down_pos g))))
digits_pos (suc n) g b d B w = zero-lt-suc n

cross_quotient : (X d a e c Y b D : ℕ) → X * c ≡ a * e → Y * d ≡ b * D → X * D * (b * c) ≡ a * d * (Y * e)
cross_quotient X d a e c Y b D v w = let k : X * c * (b * D) ≡ a * e * (Y * d) = ap₂ (λ (p q : ℕ). p * q) v (sym w) in omega arith

pub div_at : (f : Format) (x y : Float) (s : Bool) (a c : ℕ) (t : Bool) (b d : ℕ) → 0 < c → 0 < d → 0 < b → HasValue x s a c → HasValue y t b d
    → div f x y ≡ round f (unlike s t) (a * d) (b * c)
unfolding div
div_at f nan y s a c t b d C D B v w = absurd v
div_at f (inf u) y s a c t b d C D B v w = absurd v
div_at f (fin u m e) nan s a c t b d C D B v w = absurd w
div_at f (fin u m e) (inf r) s a c t b d C D B v w = absurd w
div_at f (fin u m e) (fin r n g) s a c t b d C D B v w =
    let N = digits_pos n g b d B w.1 in
    rw (ne_eqb n 0 (λ e. omega arith))
    (round_same f (unlike u r) (m * up e * down g) (n * up g * down e) (a * d) (b * c) (mul-pos (mul-pos N (up_pos g)) (down_pos e)) (mul-pos B C)
    (cross_quotient (m * up e) d a (down e) c (n * up g) b (down g) v.1 w.1)
    ∙ ap (λ (z : Bool). round f (unlike z r) (a * d) (b * c)) v.0
    ∙ ap (λ (z : Bool). round f (unlike s z) (a * d) (b * c)) w.0)
