-- 01, "Elementary functions, the lowest layer", the lines of exp, exp2 and exp_m1: each step is one rounded operation,
-- left to right. The definitions are shut: other crates cannot unfold them. What they may know of them are the
-- contracts and the laws that proofs/ exports.
pub mod Open
pub mod Examples
use Rattle.std.specs.Prelude.{false, cond, ℕ, ◌-◌, ℤ, pos, ◌-ℤ◌, Float}
use Rattle.std.specs.Int.Signed.{quot_z}
use Rattle.std.specs.Float.{inf, fin}
use Rattle.std.specs.Float.Ieee.{lt, le, ne, neg}
use Rattle.floats.specs.Operations.{◌⊕◌, ◌⊖◌, ◌⊗◌, ◌⊘◌, float, whole, f0, f½, f1, ln2}
use Rattle.floats.specs.Loops.{down_to}
use Rattle.near.specs.Near.{near}
use Rattle.exponential.specs.Constants.{log2e, ln2_high, ln2_low, exp_highest, exp_lowest, exp2_highest, exp2_lowest}

-- ---- "exp y"

-- "p = 1 + (r·p)/j"
abbrev pub exp_term : Float → ℕ → Float → Float
exp_term r j p = f1 ⊕ r ⊗ p ⊘ whole j

-- "p = 1, then for j = 16 down to 1": `last` is 1 for exp and exp2, and 2 for exp_m1
pub exp_sum : Float → ℕ → Float
exp_sum r last = down_to (exp_term r) last (17 - last) f1

-- 2 ^ k
abbrev pub power_of_two : ℤ → Float
power_of_two k = fin false 1 k

-- "p·2^h·2^(k−h), h = k/2 cut"
pub scaled : Float → ℤ → Float
scaled p k = p ⊗ power_of_two (quot_z k (pos 2)) ⊗ power_of_two (k -ℤ quot_z k (pos 2))

-- "r = (y − k·0.6931471803691238) − k·1.9082149292705877e-10"
abbrev pub exp_rest : Float → Float → Float
exp_rest y k = y ⊖ k ⊗ ln2_high ⊖ k ⊗ ln2_low

pub exp : Float → Float
exp y =
    cond (ne y y) y
    (cond (lt exp_highest y) (inf false)
    (cond (lt y (neg exp_lowest)) f0
    (scaled (exp_sum (exp_rest y (float (near (y ⊗ log2e)))) 1) (near (y ⊗ log2e)))))

-- ---- "exp2 y": "k = near(y), r = (y−k)·0.6931471805599453, then p and scaling as above"

pub exp2 : Float → Float
exp2 y =
    cond (ne y y) y
    (cond (le exp2_highest y) (inf false)
    (cond (lt y (neg exp2_lowest)) f0
    (scaled (exp_sum ((y ⊖ float (near y)) ⊗ ln2) 1) (near y))))

-- ---- "exp_m1 y: exp(y) − 1 beyond size 0.5; else p = 1, j = 16 down to 2: p = 1 + (y·p)/j; y·p"

pub exp_m1 : Float → Float
exp_m1 y = cond (lt f½ y) (exp y ⊖ f1) (cond (lt y (neg f½)) (exp y ⊖ f1) (y ⊗ exp_sum y 2))
