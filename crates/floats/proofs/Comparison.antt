-- The order of floats: by any fractions that the operands equal, and on all floats transitive and, NaN aside, total.
use Rattle.std.proofs.Common.{◌≡◌, refl, sym, ap, ◌∙◌, subst, ◌⊎◌, inl, inr, ℕ, ◌+◌, ◌*◌, ◌≤◌, ◌<◌, le_of_eq, le_of_lt}
use Rattle.std.proofs.Common.{eq-or-lt_of_le, zero-mul, mul_comm, mul_assoc, mul_right_comm, mul-pos}
use Rattle.std.proofs.Common.{arith, Bool, true, false, not, ◌&&◌, ◌||◌, T, ltb, eqb, ltb→lt, lt→ltb, eqb→eq}
use Rattle.std.proofs.Common.{Float, zero-lt-suc}
use Rattle.std.specs.Float.{nan, inf, fin, Format}
use Rattle.std.specs.Float.Ieee.{up, down, lt, le, eq, below, level, fits, is_nan}
use Rattle.std.specs.Float.Ieee.Exact.{HasValue}
use Rattle.std.proofs.Math.Nat.{eq_of_mul-eq-mul_right}
use Rattle.std.specs.Float.Ieee.Fits.{eq→eqb, and_i, down_pos, and_l, and_r}
use Rattle.std.proofs.Math.Dec.{not_T}
use Rattle.std.proofs.Math.Bool.{beq}
use Rattle.std.proofs.Math.Facts.{or_yes}
use Rattle.std.proofs.lemmas.Bool.{cases_lt}
use Rattle.std.proofs.lemmas.Float as Order
use Rattle.floats.specs.Operations.{f0}
use Rattle.floats.specs.Facts.{SignedLe}
use Rattle.floats.proofs.Booleans.{same_test, or_l, or_r, beq_same}
use Rattle.floats.proofs.Tests.{le_of_tests, ltb_same, eqb_same, add_scale, scale_l, scale_r}
use Rattle.floats.proofs.Values.{value_unique, rescale, own_value, zero_over}

-- ---- a comparison, over one denominator

below_same : (s : Bool) (A : ℕ) (t : Bool) (B C a b c : ℕ) → 0 < C → 0 < c → A * c ≡ a * C → B * c ≡ b * C → below s A t B ≡ below s a t b
below_same false A false B C a b c P p x y = ltb_same A B C a b c P p x y
below_same false A true B C a b c P p x y = refl
below_same true A false B C a b c P p x y = ltb_same 0 (A + B) C 0 (a + b) c P p (zero-mul c ∙ sym (zero-mul C)) (add_scale A B C a b c x y)
below_same true A true B C a b c P p x y = ltb_same B A C b a c P p y x

pub lt_at : (x y : Float) (s : Bool) (a : ℕ) (t : Bool) (b c : ℕ) → 0 < c → HasValue x s a c → HasValue y t b c → lt x y ≡ below s a t b
unfolding lt
lt_at nan y s a t b c C v w = absurd v
lt_at (inf u) y s a t b c C v w = absurd v
lt_at (fin u m e) nan s a t b c C v w = absurd w
lt_at (fin u m e) (inf r) s a t b c C v w = absurd w
lt_at (fin u m e) (fin r n d) s a t b c C v w =
    below_same u (m * up e * down d) r (n * up d * down e) (down e * down d) a b c (mul-pos (down_pos e) (down_pos d)) C
    (scale_l (m * up e) (down d) a (down e) c v.1) (scale_r (n * up d) (down e) b (down d) c w.1)
    ∙ ap (λ (z : Bool). below z a r b) v.0
    ∙ ap (λ (z : Bool). below s a z b) w.0

pub eq_at : (x y : Float) (s : Bool) (a : ℕ) (t : Bool) (b c : ℕ) → 0 < c → HasValue x s a c → HasValue y t b c → eq x y ≡ level s a t b
unfolding eq
eq_at nan y s a t b c C v w = absurd v
eq_at (inf u) y s a t b c C v w = absurd v
eq_at (fin u m e) nan s a t b c C v w = absurd w
eq_at (fin u m e) (inf r) s a t b c C v w = absurd w
eq_at (fin u m e) (fin r n d) s a t b c C v w =
    let A = m * up e * down d in
    let B = n * up d * down e in
    let D = down e * down d in
    let P = mul-pos (down_pos e) (down_pos d) in
    let x = scale_l (m * up e) (down d) a (down e) c v.1 in
    let y = scale_r (n * up d) (down e) b (down d) c w.1 in
    ap (λ (z : Bool). z && (beq u r || eqb A 0)) (eqb_same A B D a b c P C x y)
    ∙ ap (λ (z : Bool). eqb a b && (beq u r || z)) (eqb_same A 0 D a 0 c P C x (zero-mul c ∙ sym (zero-mul D)))
    ∙ ap (λ (z : Bool). level z a r b) v.0
    ∙ ap (λ (z : Bool). level s a z b) w.0

-- equal floats: one size, and one sign unless that is 0
pub equal_value : (x y : Float) (t : Bool) (b c : ℕ) → 0 < c → HasValue y t b c → T (eq x y) → (s : Bool) × HasValue x s b c × ((b ≡ 0) ⊎ (s ≡ t))
unfolding eq
equal_value nan y t b c C w h = absurd h
equal_value (inf s) nan t b c C w h = absurd w
equal_value (inf s) (inf r) t b c C w h = absurd w
equal_value (inf s) (fin r n d) t b c C w h = absurd h
equal_value (fin s m e) y t b c C w h =
    let A = m * up e * c in
    let B = b * down e in
    let D = down e * c in
    let v : HasValue (fin s m e) s A D = rescale (fin s m e) s (m * up e) (down e) A D (down_pos e) (sym (mul_assoc (m * up e) (down e) c) ∙ mul_right_comm (m * up e) (down e) c) (own_value s m e) in
    let w' : HasValue y t B D = rescale y t b c B D C (sym (mul_assoc b (down e) c)) w in
    let k : T (level s A t B) = subst T (eq_at (fin s m e) y s A t B D (mul-pos (down_pos e) C) v w') h in
    let same : A ≡ B = eqb→eq A B (and_l (eqb A B) (beq s t || eqb A 0) k) in
    (s, (refl, same), signs same (or_yes (beq s t) (eqb A 0) (and_r (eqb A B) (beq s t || eqb A 0) k)))
  where
    signs : m * up e * c ≡ b * down e → T (beq s t) ⊎ T (eqb (m * up e * c) 0) → (b ≡ 0) ⊎ (s ≡ t)
    signs same (inl h) = inr (beq_same s t h)
    signs same (inr h) =
        inl (eq_of_mul-eq-mul_right (down e) (down_pos e) b 0 (sym same ∙ eqb→eq (m * up e * c) 0 h ∙ sym (zero-mul (down e))))

-- equal to 0: a zero, of either sign
pub zero_equal : (x : Float) (s : Bool) → HasValue x s 0 1 → T (eq x f0)
zero_equal x s v = subst T (sym (eq_at x f0 s 0 false 0 1 (zero-lt-suc 0) v (zero_over 1))) (go s)
  where
    go : (s : Bool) → T (level s 0 false 0)
    go true = tt
    go false = tt

pub equal_zero : (x : Float) → T (eq x f0) → (s : Bool) × HasValue x s 0 1
equal_zero x h = let k = equal_value x f0 false 0 1 (zero-lt-suc 0) (zero_over 1) h in (k.0, k.1)

le_is : (x y : Float) → le x y ≡ (lt x y || eq x y)
unfolding le
le_is x y = refl

pub le_at : (x y : Float) (s : Bool) (a : ℕ) (t : Bool) (b c : ℕ) → 0 < c → HasValue x s a c → HasValue y t b c
    → le x y ≡ (below s a t b || level s a t b)
le_at x y s a t b c C v w =
    le_is x y ∙ ap (λ (z : Bool). z || eq x y) (lt_at x y s a t b c C v w) ∙ ap (λ (z : Bool). below s a t b || z) (eq_at x y s a t b c C v w)

-- the other way round is `le_of_values` of lib.Ieee.Order
pub values_of_le : (x y : Float) (a c b d : ℕ) → 0 < c → 0 < d → HasValue x false a c → HasValue y false b d → T (le x y) → a * d ≤ b * c
values_of_le x y a c b d C D v w h =
    let p = mul-pos C D in
    let v' : HasValue x false (a * d) (c * d) = rescale x false a c (a * d) (c * d) C (ap (λ (z : ℕ). a * z) (mul_comm c d) ∙ sym (mul_assoc a d c)) v in
    let w' : HasValue y false (b * c) (c * d) = rescale y false b d (b * c) (c * d) D (sym (mul_assoc b c d)) w in
    le_of_tests (a * d) (b * c) (subst T (le_at x y false (a * d) false (b * c) (c * d) p v' w') h)

-- ---- `le` in words of natural numbers, and transitive on all floats

pub signed_le_of_test : (s : Bool) (a : ℕ) (t : Bool) (b : ℕ) → T (below s a t b || level s a t b) → SignedLe s a t b
signed_le_of_test false a false b h = le_of_tests a b h
signed_le_of_test false a true b h =
    let z : a ≡ 0 = eqb→eq a 0 (and_r (eqb a b) (eqb a 0) h) in
    (z, sym (eqb→eq a b (and_l (eqb a b) (eqb a 0) h)) ∙ z)
signed_le_of_test true a false b h = tt
signed_le_of_test true a true b h = elim (or_yes (ltb b a) (eqb a b && true) h) [ inl u ↦ le_of_lt (ltb→lt b a u) | inr u ↦ le_of_eq (sym (eqb→eq a b (and_l (eqb a b) true u))) ]

pub test_of_signed_le : (s : Bool) (a : ℕ) (t : Bool) (b : ℕ) → SignedLe s a t b → T (below s a t b || level s a t b)
test_of_signed_le false a false b h = elim (eq-or-lt_of_le h) [ inl e ↦ or_r (ltb a b) (eqb a b && true) (and_i (eqb a b) true (eq→eqb e) tt) | inr l ↦ or_l (ltb a b) (eqb a b && true) (lt→ltb a b l) ]
test_of_signed_le false a true b h = and_i (eqb a b) (eqb a 0) (eq→eqb (h.0 ∙ sym h.1)) (eq→eqb h.0)
test_of_signed_le true a false b h = elim (cases_lt 0 (a + b)) [
  | inl l ↦ or_l (ltb 0 (a + b)) (eqb a b && eqb a 0) (lt→ltb 0 (a + b) l)
  | inr z ↦ or_r (ltb 0 (a + b)) (eqb a b && eqb a 0) (and_i (eqb a b) (eqb a 0) (eq→eqb (omega arith)) (eq→eqb (omega arith)))
]
test_of_signed_le true a true b h = elim (eq-or-lt_of_le h) [ inl e ↦ or_r (ltb b a) (eqb a b && true) (and_i (eqb a b) true (eq→eqb (sym e)) tt) | inr l ↦ or_l (ltb b a) (eqb a b && true) (lt→ltb b a l) ]

pub float_le_trans : (x y z : Float) → T (le x y) → T (le y z) → T (le x z)
float_le_trans = Order.le_trans

-- ---- equal and of one sign: the same value

pub eq_value : (f : Format) (x y : Float) (s : Bool) (a : ℕ) (t : Bool) (b c : ℕ) → 0 < c → T (fits f x) → T (fits f y) → HasValue x s a c
    → HasValue y t b c → s ≡ t → T (eq x y) → x ≡ y
eq_value f x y s a t b c C p q v w e h =
    let k : a ≡ b = eqb→eq a b (and_l (eqb a b) (beq s t || eqb a 0) (subst T (eq_at x y s a t b c C v w) h)) in
    value_unique f x y s a c C p q v (subst (λ (z : Bool). HasValue y z a c) (sym e) (subst (λ (z : ℕ). HasValue y t z c) (sym k) w))

-- ---- of two floats that are no NaN one is below the other, or the other is at most the one

pub float_lt_total : (x y : Float) → T (not (is_nan x)) → T (not (is_nan y)) → lt x y ≡ not (le y x)
float_lt_total x y p q = same_test (lt x y) (not (le y x))
    (λ h. not_T (le y x) (λ k. Order.lt_irrefl x (Order.lt_of_lt_of_le x y x h k)))
    (λ h. Order.lt_of_not-le y x q p h)

-- what compares is no NaN
pub le_no_nan : (x y : Float) → T (le x y) → T (not (is_nan x)) × T (not (is_nan y))
le_no_nan x y h = (Order.le_left x y h, Order.le_right x y h)

pub lt_no_nan : (x y : Float) → T (lt x y) → T (not (is_nan x)) × T (not (is_nan y))
lt_no_nan x y h = le_no_nan x y (Order.le_of_lt x y h)

pub eq_no_nan : (x y : Float) → T (eq x y) → T (not (is_nan x)) × T (not (is_nan y))
eq_no_nan x y h = le_no_nan x y (Order.le_of_eq x y h)

pub float_lt_le_trans : (x y z : Float) → T (lt x y) → T (le y z) → T (lt x z)
float_lt_le_trans = Order.lt_of_lt_of_le

pub float_le_lt_trans : (x y z : Float) → T (le x y) → T (lt y z) → T (lt x z)
float_le_lt_trans = Order.lt_of_le_of_lt
