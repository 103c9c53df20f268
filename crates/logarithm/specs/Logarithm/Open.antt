-- What each definition of Logarithm.antt says. Only this crate's own proofs cite these laws: the crates above go by
-- promise.
use Rattle.std.specs.Prelude.{◌≡◌, refl, Bool, true, false, cond, ℕ, zero, suc, ◌-◌, ℤ, pos, neg_ℤ, ◌+ℤ◌, Float}
use Rattle.std.specs.Float.{nan, inf, fin}
use Rattle.std.specs.Float.Ieee.{size, le, eq}
use Rattle.floats.specs.Operations.{◌⊗◌, float, f0, f½, f1}
use Rattle.floats.specs.Loops.{down_to}
use Rattle.exponential.specs.Exponential.{exp}
use Rattle.logarithm.specs.Constants.{root2}
use Rattle.logarithm.specs.Logarithm.{ln_term, ln_sum, ln_near_one, ln_of_parts, ln, power}

pub ln_sum_is : (z : Float) → ln_sum z ≡ down_to (ln_term z) 0 13 f0
unfolding ln_sum
ln_sum_is z = refl

pub ln_of_parts_is : (m : Float) (e : ℤ)
    → ln_of_parts m e ≡ cond (le root2 m) (ln_near_one (m ⊗ f½) (float (e +ℤ pos 1))) (ln_near_one m (float e))
unfolding ln_of_parts
ln_of_parts_is m e = refl

pub ln_nan : ln nan ≡ nan
unfolding ln
ln_nan = refl

pub ln_infinite : (s : Bool) → ln (inf s) ≡ cond s nan (inf false)
unfolding ln
ln_infinite s = refl

pub ln_zero : (s : Bool) (e : ℤ) → ln (fin s zero e) ≡ inf true
unfolding ln
ln_zero s e = refl

pub ln_negative : (n : ℕ) (e : ℤ) → ln (fin true (suc n) e) ≡ nan
unfolding ln
ln_negative n e = refl

pub ln_positive : (n : ℕ) (e : ℤ)
    → ln (fin false (suc n) e)
    ≡ ln_of_parts (fin false (suc n) (neg_ℤ (pos (size (suc n) - 1)))) (e +ℤ pos (size (suc n) - 1))
unfolding ln
ln_positive n e = refl

pub power_is : (b p : Float) → power b p ≡ cond (eq p f0) f1 (exp (p ⊗ ln b))
unfolding power
power_is b p = refl
