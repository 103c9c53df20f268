-- The opposite of a float, and a product's sign: a product with one opposite factor is the opposite, to the bit.
use Rattle.std.proofs.Common.{◌≡◌, refl, sym, ap, ◌∙◌, ◌*◌, Bool, true, false, not, cond, eqb, Float}
use Rattle.std.specs.Float.{nan, inf, fin, Format}
use Rattle.std.specs.Float.Ieee.{up, down, neg, mul, round, unlike}
use Rattle.floats.proofs.Rounding.{round_neg}

-- ---- the sign of a product

pub unlike_false : (s : Bool) → unlike false s ≡ s
unlike_false true = refl
unlike_false false = refl

pub unlike_true : (s : Bool) → unlike true s ≡ not s
unlike_true true = refl
unlike_true false = refl

pub unlike_not_l : (s t : Bool) → unlike (not s) t ≡ not (unlike s t)
unlike_not_l true true = refl
unlike_not_l true false = refl
unlike_not_l false true = refl
unlike_not_l false false = refl

pub unlike_not_r : (s t : Bool) → unlike s (not t) ≡ not (unlike s t)
unlike_not_r true true = refl
unlike_not_r true false = refl
unlike_not_r false true = refl
unlike_not_r false false = refl

pub unlike_assoc : (s t u : Bool) → unlike (unlike s t) u ≡ unlike s (unlike t u)
unlike_assoc true t u = rw (unlike_true t, unlike_true (unlike t u)) (unlike_not_l t u)
unlike_assoc false t u = rw (unlike_false t, unlike_false (unlike t u))

pub unlike_comm : (s t : Bool) → unlike s t ≡ unlike t s
unlike_comm true true = refl
unlike_comm true false = refl
unlike_comm false true = refl
unlike_comm false false = refl

-- ---- −(−a) is a

pub neg_neg : (a : Float) → neg (neg a) ≡ a
unfolding neg
neg_neg nan = refl
neg_neg (inf true) = refl
neg_neg (inf false) = refl
neg_neg (fin true m e) = refl
neg_neg (fin false m e) = refl

-- ---- a product's sign follows its factors', that of a zero too

-- an infinity times a number is NaN where that is 0
opposite_infinity : (z s t : Bool) → t ≡ not s → cond z nan (inf t) ≡ neg (cond z nan (inf s))
unfolding neg
opposite_infinity true s t e = refl
opposite_infinity false s t e = ap inf e

pub mul_neg_l : (f : Format) (a b : Float) → mul f (neg a) b ≡ neg (mul f a b)
unfolding mul neg
mul_neg_l f nan b = refl
mul_neg_l f (inf s) nan = refl
mul_neg_l f (inf s) (inf t) = ap inf (unlike_not_l s t)
mul_neg_l f (inf s) (fin t n d) = opposite_infinity (eqb n 0) (unlike s t) (unlike (not s) t) (unlike_not_l s t)
mul_neg_l f (fin s m e) nan = refl
mul_neg_l f (fin s m e) (inf t) = opposite_infinity (eqb m 0) (unlike s t) (unlike (not s) t) (unlike_not_l s t)
mul_neg_l f (fin s m e) (fin t n d) =
    ap (λ (z : Bool). round f z (m * up e * (n * up d)) (down e * down d)) (unlike_not_l s t)
    ∙ sym (round_neg f (unlike s t) (m * up e * (n * up d)) (down e * down d))

pub mul_neg_r : (f : Format) (a b : Float) → mul f a (neg b) ≡ neg (mul f a b)
unfolding mul neg
mul_neg_r f nan b = refl
mul_neg_r f (inf s) nan = refl
mul_neg_r f (inf s) (inf t) = ap inf (unlike_not_r s t)
mul_neg_r f (inf s) (fin t n d) = opposite_infinity (eqb n 0) (unlike s t) (unlike s (not t)) (unlike_not_r s t)
mul_neg_r f (fin s m e) nan = refl
mul_neg_r f (fin s m e) (inf t) = opposite_infinity (eqb m 0) (unlike s t) (unlike s (not t)) (unlike_not_r s t)
mul_neg_r f (fin s m e) (fin t n d) =
    ap (λ (z : Bool). round f z (m * up e * (n * up d)) (down e * down d)) (unlike_not_r s t)
    ∙ sym (round_neg f (unlike s t) (m * up e * (n * up d)) (down e * down d))

-- c·x·x is the same at −x
pub square_same : (f : Format) (c x : Float) → mul f (mul f c (neg x)) (neg x) ≡ mul f (mul f c x) x
square_same f c x =
    ap (λ (z : Float). mul f z (neg x)) (mul_neg_r f c x)
    ∙ mul_neg_l f (mul f c x) (neg x)
    ∙ ap neg (mul_neg_r f (mul f c x) x)
    ∙ neg_neg (mul f (mul f c x) x)
