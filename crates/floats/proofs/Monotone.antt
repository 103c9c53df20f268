-- `round` keeps the order of signed fractions, and a sum keeps it in its first operand.
use Rattle.std.proofs.Common.{◌≡◌, refl, sym, ap, ◌∙◌, subst, inl, inr, ℕ, suc, ◌+◌, ◌-◌, ◌*◌, ◌^◌, ◌≤◌, ◌<◌, zero-mul}
use Rattle.std.proofs.Common.{mul_comm, mul_assoc, mul-pos, mul-le-mul_right, arith, Bool, true, false, not, ◌&&◌, cond}
use Rattle.std.proofs.Common.{T, ltb, ltb→lt, nltb→le, pow_pos, Float}
use Rattle.std.specs.Float.{nan, inf, fin, Format}
use Rattle.std.specs.Float.Ieee.{prec, emax, low, up, down, round, sum, add, le}
use Rattle.std.specs.Float.Ieee.Exact.{HasValue, round_exact}
use Rattle.std.proofs.Math.Nat.{eq_of_mul-eq-mul_right}
use Rattle.std.specs.Float.Ieee.Fits.{down_pos}
use Rattle.std.specs.Float.Ieee.Order.{round_mono}
use Rattle.std.specs.Float.Ieee.Scale.{grid, overflow, finite}
use Rattle.std.proofs.Math.Bool.{beq}
use Rattle.std.proofs.lemmas.Bool.{cases_lt}
use Rattle.floats.specs.Facts.{SignedLe}
use Rattle.floats.proofs.Values.{rescale, fin_value}
use Rattle.floats.proofs.Arithmetic.{add_at}
use Rattle.floats.proofs.Comparison.{le_at, signed_le_of_test, test_of_signed_le}
use Rattle.floats.proofs.Rounding.{round_value, round_inf, grid_mono}

low_le : (y : Float) (s : Bool) (b d : ℕ) → HasValue y s b d → T (le (inf true) y)
unfolding le
low_le nan s b d w = absurd w
low_le (inf t) s b d w = absurd w
low_le (fin t n e) s b d w = tt

le_high : (x : Float) (s : Bool) (a c : ℕ) → HasValue x s a c → T (le x (inf false))
unfolding le
le_high nan s a c v = absurd v
le_high (inf t) s a c v = absurd v
le_high (fin t n e) s a c v = tt

low_high : T (le (inf true) (inf false))
unfolding le
low_high = tt

low_low : T (le (inf true) (inf true))
unfolding le
low_low = tt

-- one below zero, the other zero or above
apart : (f : Format) (a c b d : ℕ) → T (le (round f true a c) (round f false b d))
apart f a c b d = elim (cases_lt (grid f a c) (overflow f)) [
  | inl g ↦ elim (cases_lt (grid f b d) (overflow f)) [
    | inl h ↦ subst T (sym (le_at (round f true a c) (round f false b d) true (grid f a c) false (grid f b d) (2 ^ low f) (pow_pos (low f)) (round_value f true a c g) (round_value f false b d h))) (test_of_signed_le true (grid f a c) false (grid f b d) tt)
    | inr h ↦ subst (λ (z : Float). T (le (round f true a c) z)) (sym (round_inf f false b d h)) (le_high (round f true a c) true (grid f a c) (2 ^ low f) (round_value f true a c g))
  ]
  | inr g ↦ subst (λ (z : Float). T (le z (round f false b d))) (sym (round_inf f true a c g)) (elim (cases_lt (grid f b d) (overflow f)) [
    | inl h ↦ low_le (round f false b d) false (grid f b d) (2 ^ low f) (round_value f false b d h)
    | inr h ↦ subst (λ (z : Float). T (le (inf true) z)) (sym (round_inf f false b d h)) low_high
  ])
]

-- both below zero: b / d ≤ a / c in size
both_below : (f : Format) (a c b d : ℕ) → 0 < c → 0 < d → b * c ≤ a * d → T (le (round f true a c) (round f true b d))
both_below f a c b d C D h = elim (cases_lt (grid f a c) (overflow f)) [
  | inl g ↦
      let m = grid_mono f b d a c D C h g in
      subst T (sym (le_at (round f true a c) (round f true b d) true (grid f a c) true (grid f b d) (2 ^ low f) (pow_pos (low f)) (round_value f true a c g) (round_value f true b d m.0))) (test_of_signed_le true (grid f a c) true (grid f b d) m.1)
  | inr g ↦ subst (λ (z : Float). T (le z (round f true b d))) (sym (round_inf f true a c g)) (elim (cases_lt (grid f b d) (overflow f)) [
    | inl k ↦ low_le (round f true b d) true (grid f b d) (2 ^ low f) (round_value f true b d k)
    | inr k ↦ subst (λ (z : Float). T (le (inf true) z)) (sym (round_inf f true b d k)) low_low
  ])
]

-- a zero of either sign
round_zero_value : (f : Format) (s : Bool) (c : ℕ) → 0 < c → HasValue (round f s 0 c) s 0 c
round_zero_value f s c C = round_exact f s 0 c 0 0 C (pow_pos (prec f)) (pow_pos (low f + suc (emax f))) (zero-mul (2 ^ low f) ∙ sym (zero-mul c))

zeros : (f : Format) (a c b d : ℕ) → 0 < c → 0 < d → a ≡ 0 → b ≡ 0 → T (le (round f false a c) (round f true b d))
zeros f a c b d C D p q =
    subst (λ (z : ℕ). T (le (round f false z c) (round f true b d))) (sym p)
    (subst (λ (z : ℕ). T (le (round f false 0 c) (round f true z d))) (sym q)
    (subst T (sym (le_at (round f false 0 c) (round f true 0 d) false 0 true 0 c C (round_zero_value f false c C) (rescale (round f true 0 d) true 0 d 0 c D (zero-mul c ∙ sym (zero-mul d)) (round_zero_value f true d D)))) (test_of_signed_le false 0 true 0 (refl, refl))))

cancel : (a d : ℕ) → 0 < d → a * d ≡ 0 → a ≡ 0
cancel a d D e = eq_of_mul-eq-mul_right d D a 0 (e ∙ sym (zero-mul d))

-- `round` keeps the order of fractions with signs
pub round_mono_signed : (f : Format) (s : Bool) (a c : ℕ) (t : Bool) (b d : ℕ) → 0 < c → 0 < d → SignedLe s (a * d) t (b * c)
    → T (le (round f s a c) (round f t b d))
round_mono_signed f false a c false b d C D h = round_mono f a c b d C D h
round_mono_signed f false a c true b d C D h = zeros f a c b d C D (cancel a d D h.0) (cancel b c C h.1)
round_mono_signed f true a c false b d C D h = apart f a c b d
round_mono_signed f true a c true b d C D h = both_below f a c b d C D h

-- ---- a sum keeps the order in its first operand

-- the sign and the size of a sum, as `sum` has them
abbrev pub sum_sign : Bool → ℕ → Bool → ℕ → Bool
sum_sign s a r e = cond (beq s r) s (cond (ltb a e) r (s && ltb e a))

abbrev pub sum_size : Bool → ℕ → Bool → ℕ → ℕ
sum_size s a r e = cond (beq s r) (a + e) (cond (ltb a e) (e - a) (a - e))

pub sum_round : (f : Format) (s : Bool) (a : ℕ) (r : Bool) (e c : ℕ) → sum f s a r e c ≡ round f (sum_sign s a r e) (sum_size s a r e) c
unfolding sum
sum_round f s a r e c = go (beq s r) (ltb a e) s r (s && ltb e a) (a + e) (e - a) (a - e)
  where
    go : (x y s r w : Bool) (i j k : ℕ)
        → cond x (round f s i c) (cond y (round f r j c) (round f w k c)) ≡ round f (cond x s (cond y r w)) (cond x i (cond y j k)) c
    go true y s r w i j k = refl
    go false true s r w i j k = refl
    go false false s r w i j k = refl

-- a number with a sign, moved up by M: its order and its sum are those of natural numbers
abbrev raised : ℕ → Bool → ℕ → ℕ
raised M false a = M + a
raised M true a = M - a

signed_le_raised : (M : ℕ) (s : Bool) (a : ℕ) (t : Bool) (b : ℕ) → SignedLe s a t b → raised M s a ≤ raised M t b
signed_le_raised M false a false b h = omega arith
signed_le_raised M false a true b h = omega arith
signed_le_raised M true a false b h = omega arith
signed_le_raised M true a true b h = omega arith

raised_signed_le : (M : ℕ) (s : Bool) (a : ℕ) (t : Bool) (b : ℕ) → a ≤ M → b ≤ M → raised M s a ≤ raised M t b → SignedLe s a t b
raised_signed_le M false a false b p q h = omega arith
raised_signed_le M false a true b p q h = omega arith
raised_signed_le M true a false b p q h = tt
raised_signed_le M true a true b p q h = omega arith

raised_sum : (M : ℕ) (s : Bool) (a : ℕ) (r : Bool) (e : ℕ) → a + e ≤ M
    → (raised M (sum_sign s a r e) (sum_size s a r e) + M ≡ raised M s a + raised M r e) × (sum_size s a r e ≤ M)
raised_sum M s a r e h = go s r (ltb a e) (ltb→lt a e) (nltb→le a e) (ltb e a) (nltb→le e a)
  where
    go : (s r x : Bool) → (T x → a < e) → (T (not x) → e ≤ a) → (y : Bool) → (T (not y) → a ≤ e)
        → (raised M (cond (beq s r) s (cond x r (s && y))) (cond (beq s r) (a + e) (cond x (e - a) (a - e))) + M ≡ raised M s a + raised M r e) × (cond (beq s r) (a + e) (cond x (e - a) (a - e)) ≤ M)
    go false false x p q y w = omega arith
    go true true x p q y w = omega arith
    go false true true p q y w = let k = p tt in omega arith
    go false true false p q y w = let k = q tt in omega arith
    go true false true p q y w = let k = p tt in omega arith
    go true false false p q true w = let k = q tt in omega arith
    go true false false p q false w = let k = q tt in let l = w tt in omega arith

signed_le_sum : (s : Bool) (a : ℕ) (t : Bool) (b : ℕ) (r : Bool) (e : ℕ) → SignedLe s a t b
    → SignedLe (sum_sign s a r e) (sum_size s a r e) (sum_sign t b r e) (sum_size t b r e)
signed_le_sum s a t b r e h =
    let M = a + b + e in
    let x = raised_sum M s a r e (omega arith) in
    let y = raised_sum M t b r e (omega arith) in
    raised_signed_le M (sum_sign s a r e) (sum_size s a r e) (sum_sign t b r e) (sum_size t b r e) x.1 y.1
    (omega (arith, x.0, y.0, signed_le_raised M s a t b h))

signed_le_scale : (s : Bool) (a : ℕ) (t : Bool) (b c : ℕ) → SignedLe s a t b → SignedLe s (a * c) t (b * c)
signed_le_scale false a false b c h = mul-le-mul_right c h
signed_le_scale false a true b c h = (ap (λ (z : ℕ). z * c) h.0 ∙ zero-mul c, ap (λ (z : ℕ). z * c) h.1 ∙ zero-mul c)
signed_le_scale true a false b c h = tt
signed_le_scale true a true b c h = mul-le-mul_right c h

pub add_mono : (f : Format) (x y z : Float) (s : Bool) (a : ℕ) (t : Bool) (b : ℕ) (r : Bool) (e c : ℕ) → 0 < c → HasValue x s a c → HasValue y t b c
    → HasValue z r e c → T (le x y) → T (le (add f x z) (add f y z))
add_mono f x y z s a t b r e c C u v w h =
    subst (λ (k : Float). T (le k (add f y z))) (sym (add_at f x z s a r e c C u w ∙ sum_round f s a r e c))
    (subst (λ (k : Float). T (le (round f (sum_sign s a r e) (sum_size s a r e) c) k)) (sym (add_at f y z t b r e c C v w ∙ sum_round f t b r e c))
    (round_mono_signed f (sum_sign s a r e) (sum_size s a r e) c (sum_sign t b r e) (sum_size t b r e) c C C
    (signed_le_scale (sum_sign s a r e) (sum_size s a r e) (sum_sign t b r e) (sum_size t b r e) c (signed_le_sum s a t b r e (signed_le_of_test s a t b (subst T (le_at x y s a t b c C u v) h))))))

-- for any three finite values
pub add_mono_finite : (f : Format) (x y z : Float) → T (finite x) → T (finite y) → T (finite z) → T (le x y) → T (le (add f x z) (add f y z))
add_mono_finite f nan y z p q w h = absurd p
add_mono_finite f (inf s) y z p q w h = absurd p
add_mono_finite f (fin s m e) nan z p q w h = absurd q
add_mono_finite f (fin s m e) (inf t) z p q w h = absurd q
add_mono_finite f (fin s m e) (fin t n d) nan p q w h = absurd w
add_mono_finite f (fin s m e) (fin t n d) (inf r) p q w h = absurd w
add_mono_finite f (fin s m e) (fin t n d) (fin r o g) p q w h =
    let de = down e in
    let dd = down d in
    let dg = down g in
    let C = de * dd * dg in
    add_mono f (fin s m e) (fin t n d) (fin r o g) s (m * up e * (dd * dg)) t (n * up d * (de * dg)) r (o * up g * (de * dd)) C (mul-pos (mul-pos (down_pos e) (down_pos d)) (down_pos g))
    (fin_value s m e (dd * dg) C (mul_assoc de dd dg)) (fin_value t n d (de * dg) C (ap (λ (k : ℕ). k * dg) (mul_comm de dd) ∙ mul_assoc dd de dg)) (fin_value r o g (de * dd) C (mul_comm (de * dd) dg)) h
