-- What each definition of Exponential.antt says. Only this crate's own proofs cite these laws: the crates above go by
-- promise.
use Rattle.std.specs.Prelude.{◌≡◌, refl, false, cond, ℕ, ◌-◌, ℤ, pos, ◌-ℤ◌, Float}
use Rattle.std.specs.Int.Signed.{quot_z}
use Rattle.std.specs.Float.{inf}
use Rattle.std.specs.Float.Ieee.{lt, le, ne, neg}
use Rattle.floats.specs.Operations.{◌⊖◌, ◌⊗◌, float, f0, f½, f1, ln2}
use Rattle.floats.specs.Loops.{down_to}
use Rattle.near.specs.Near.{near}
use Rattle.exponential.specs.Constants.{log2e, exp_highest, exp_lowest, exp2_highest, exp2_lowest}
use Rattle.exponential.specs.Exponential.{exp_term, exp_sum, power_of_two, scaled, exp_rest, exp, exp2, exp_m1}

pub exp_sum_is : (r : Float) (last : ℕ) → exp_sum r last ≡ down_to (exp_term r) last (17 - last) f1
unfolding exp_sum
exp_sum_is r last = refl

pub scaled_is : (p : Float) (k : ℤ) → scaled p k ≡ p ⊗ power_of_two (quot_z k (pos 2)) ⊗ power_of_two (k -ℤ quot_z k (pos 2))
unfolding scaled
scaled_is p k = refl

pub exp_is : (y : Float) → exp y ≡
    cond (ne y y) y
    (cond (lt exp_highest y) (inf false)
    (cond (lt y (neg exp_lowest)) f0
    (scaled (exp_sum (exp_rest y (float (near (y ⊗ log2e)))) 1) (near (y ⊗ log2e)))))
unfolding exp
exp_is y = refl

pub exp2_is : (y : Float) → exp2 y ≡
    cond (ne y y) y
    (cond (le exp2_highest y) (inf false)
    (cond (lt y (neg exp2_lowest)) f0
    (scaled (exp_sum ((y ⊖ float (near y)) ⊗ ln2) 1) (near y))))
unfolding exp2
exp2_is y = refl

pub exp_m1_is : (y : Float) → exp_m1 y ≡ cond (lt f½ y) (exp y ⊖ f1) (cond (lt y (neg f½)) (exp y ⊖ f1) (y ⊗ exp_sum y 2))
unfolding exp_m1
exp_m1_is y = refl
