-- What mirror images are by the comparison of floats, and what keeps them: a product, whose signs multiply, a sum and a
-- difference of two with one sign, a product with the argument or with its half.
use Rattle.std.proofs.Common.{◌≡◌, refl, sym, subst, ◌⊎◌, inl, inr, ℕ, suc, ◌%◌, arith, Bool, true, false, not, ◌||◌}
use Rattle.std.proofs.Common.{cond, T, eqb, Float}
use Rattle.std.proofs.Math.Bool.{beq}
use Rattle.std.proofs.Math.Dec.{eqb_refl}
use Rattle.std.specs.Float.Ieee.{nan, inf, binary64, neg, eq, level, is_nan, unlike}
use Rattle.std.specs.Float.Ieee.Fits.{and_i, eq→eqb}
use Rattle.std.proofs.lemmas.Bool.{cases_lt}
use Rattle.floats.specs.Operations.{◌⊕◌, ◌⊖◌, ◌⊗◌, f½}
use Rattle.floats.proofs.Booleans.{or_r}
use Rattle.floats.proofs.Comparison.{eq_at}
use Rattle.floats.proofs.Arithmetic.{sub_is}
use Rattle.floats.proofs.Opposites.{unlike_false, unlike_true}
use Rattle.mirror_images.specs.Images.{signed, MirrorOf, exact, odd}
use Rattle.mirror_images.proofs.Views.{View, no_numbers, infinite, sized, signed_inf, signed_value, view}
use Rattle.mirror_images.proofs.Products.{mul_views}
use Rattle.mirror_images.proofs.Sums.{add_views, neg_views}

-- ---- what images are by the comparison of floats

signed_is : (s : Bool) (a : Float) → signed s a ≡ cond s (neg a) a
unfolding signed
signed_is true a = refl
signed_is false a = refl

nan_is : T (is_nan nan)
unfolding is_nan
nan_is = tt

same_infinity : (t : Bool) → T (eq (inf t) (inf t))
unfolding eq
same_infinity true = tt
same_infinity false = tt

same_size : (m : ℕ) (t u : Bool) → (m ≡ 0) ⊎ (t ≡ u) → T (level t m u m)
same_size m t u h = and_i (eqb m m) (beq t u || eqb m 0) (eqb_refl m) (go t u h)
  where
    go : (t u : Bool) → (m ≡ 0) ⊎ (t ≡ u) → T (beq t u || eqb m 0)
    go t u (inl e) = or_r (beq t u) (eqb m 0) (eq→eqb e)
    go true u (inr e) = rw (← e) tt
    go false u (inr e) = rw (← e) tt

-- THE RELATION in IEEE 754's words: both are NaN, or b is equal to a, or to −a
pub in_words : (s : Bool) (a b : Float) → MirrorOf s a b → (T (is_nan a) × T (is_nan b)) ⊎ T (eq b (cond s (neg a) a))
in_words s a b p = rw (← signed_is s a) (go (view s a b p))
  where
    go : View s a b → (T (is_nan a) × T (is_nan b)) ⊎ T (eq b (signed s a))
    go (no_numbers e h) = inl (rw e nan_is, rw h nan_is)
    go (infinite t u e h k) = inr (rw (k, h, e, signed_inf s t) (same_infinity (unlike s t)))
    go (sized w) =
        inr
        (subst T
        (sym (eq_at b (signed s a) w.u w.m (unlike s w.t) w.m w.c w.positive w.right (signed_value s a w.t w.m w.c w.left)))
        (same_size w.m w.u (unlike s w.t) w.signs))

-- ---- signs

pub odd_zero : odd 0 ≡ false
unfolding odd
odd_zero = refl

pub odd_next : (k : ℕ) → odd (suc k) ≡ not (odd k)
unfolding odd
odd_next k = elim (cases_lt (k % 2) 1) [
  | inl h ↦
      let e : k % 2 ≡ 0 = omega arith in
      let f : suc k % 2 ≡ 1 = omega arith in
      rw (e, f)
  | inr h ↦
      let e : k % 2 ≡ 1 = omega arith in
      let f : suc k % 2 ≡ 0 = omega arith in
      rw (e, f)
]

-- ---- what keeps images

-- a float and itself, a float and its opposite
pub itself : (a : Float) → MirrorOf false a a
unfolding signed
itself a = exact refl

pub opposite : (a : Float) → MirrorOf true a (neg a)
unfolding signed
opposite a = exact refl

pub product : {s t : Bool} {a a' b b' : Float} → MirrorOf s a a' → MirrorOf t b b' → MirrorOf (unlike s t) (a ⊗ b) (a' ⊗ b')
product {s} {t} {a} {a'} {b} {b'} p q = mul_views s t a a' b b' (view s a a' p) (view t b b' q)

pub sum : {s : Bool} {a a' b b' : Float} → MirrorOf s a a' → MirrorOf s b b' → MirrorOf s (a ⊕ b) (a' ⊕ b')
sum {s} {a} {a'} {b} {b'} p q = add_views s a a' b b' (view s a a' p) (view s b b' q)

pub difference : {s : Bool} {a a' b b' : Float} → MirrorOf s a a' → MirrorOf s b b' → MirrorOf s (a ⊖ b) (a' ⊖ b')
difference {s} {a} {a'} {b} {b'} p q =
    rw (sub_is binary64 a b, sub_is binary64 a' b') (add_views s a a' (neg b) (neg b') (view s a a' p) (neg_views s b b' (view s b b' q)))

-- with a factor that is the same at x and at −x, and with one that is the opposite
pub times : {s : Bool} {a a' : Float} (c : Float) → MirrorOf s a a' → MirrorOf s (c ⊗ a) (c ⊗ a')
times {s} {a} {a'} c p = subst (λ (z : Bool). MirrorOf z (c ⊗ a) (c ⊗ a')) (unlike_false s) (product (itself c) p)

times_opposite : {s : Bool} {a a' y y' : Float} → MirrorOf true y y' → MirrorOf s a a' → MirrorOf (not s) (y ⊗ a) (y' ⊗ a')
times_opposite {s} {a} {a'} {y} {y'} q p = subst (λ (z : Bool). MirrorOf z (y ⊗ a) (y' ⊗ a')) (unlike_true s) (product q p)

-- with an argument, with its half and with minus its half
module _ {x y : Float} (opposite : MirrorOf true x y) where
  pub times_argument : {s : Bool} {a a' : Float} → MirrorOf s a a' → MirrorOf (not s) (x ⊗ a) (y ⊗ a')
  times_argument p = times_opposite opposite p

  pub times_half : {s : Bool} {a a' : Float} → MirrorOf s a a' → MirrorOf (not s) (f½ ⊗ x ⊗ a) (f½ ⊗ y ⊗ a')
  times_half p = times_opposite (times f½ opposite) p

  pub times_minus_half : {s : Bool} {a a' : Float} → MirrorOf s a a' → MirrorOf (not s) (neg f½ ⊗ x ⊗ a) (neg f½ ⊗ y ⊗ a')
  times_minus_half p = times_opposite (times (neg f½) opposite) p
