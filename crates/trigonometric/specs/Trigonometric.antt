-- 01, "Elementary functions, the lowest layer", the lines of sin and cos: each step is one rounded operation, left to
-- right. The definitions are shut: other crates cannot unfold them. What they may know of them are the contracts and
-- the laws that proofs/ exports.
pub mod Open
pub mod Examples
use Rattle.std.specs.Prelude.{cond, ℕ, zero, suc, ◌+◌, ◌-◌, ◌*◌, ◌%◌, ℤ, pos, negsuc, Float}
use Rattle.std.specs.Float.{nan}
use Rattle.std.specs.Float.Ieee.{lt, neg}
use Rattle.floats.specs.Operations.{◌⊖◌, ◌⊗◌, ◌⊘◌, float, whole, f1}
use Rattle.floats.specs.Loops.{down_to}
use Rattle.near.specs.Near.{near}
use Rattle.trigonometric.specs.Constants.{two_over_pi, half_pi_high, half_pi_low, angle_end}

-- "q = near(y·0.6366197723675814)", the quarter turns in y
abbrev pub quarters : Float → ℤ
quarters y = near (y ⊗ two_over_pi)

-- "r = (y − q·1.5707963267341256) − q·6.077100506506192e-11"
abbrev pub angle_rest : Float → ℤ → Float
angle_rest y q = y ⊖ float q ⊗ half_pi_high ⊖ float q ⊗ half_pi_low

-- "a = 1 − (z·a)/((2j)(2j+1))" for less = 0; "b likewise over (2j−1)(2j)" for less = 1
abbrev pub trig_term : ℕ → Float → ℕ → Float → Float
trig_term less z j a = f1 ⊖ z ⊗ a ⊘ whole ((2 * j - less) * (2 * j - less + 1))

-- "a = 1, j = 9 down to 1"
pub trig_sum : ℕ → Float → Float
trig_sum less z = down_to (trig_term less z) 1 9 f1

-- "s = r·a" and "c = b", with z = r·r
pub sine : Float → Float
sine r = r ⊗ trig_sum 0 (r ⊗ r)

pub cosine : Float → Float
cosine r = trig_sum 1 (r ⊗ r)

-- "The remainder modulo 4 is 0 to 3, also for negative q"
pub quadrant : ℤ → ℕ
quadrant (pos n) = n % 4
quadrant (negsuc n) = 3 - n % 4

-- "By q modulo 4": no other number is a remainder
abbrev pub by_quadrant : ℕ → Float → Float → Float → Float → Float
by_quadrant zero a b c d = a
by_quadrant (suc zero) a b c d = b
by_quadrant (suc (suc zero)) a b c d = c
by_quadrant (suc (suc (suc zero))) a b c d = d
by_quadrant (suc (suc (suc (suc n)))) a b c d = nan

-- "sin s, c, −s, −c; cos c, −s, −c, s"
pub sin_in : ℕ → Float → Float
sin_in q r = by_quadrant q (sine r) (cosine r) (neg (sine r)) (neg (cosine r))

pub cos_in : ℕ → Float → Float
cos_in q r = by_quadrant q (cosine r) (neg (sine r)) (neg (cosine r)) (sine r)

-- "NaN if not finite or size ≥ 2^30"
abbrev pub angle_or_nan : Float → Float → Float
angle_or_nan y r = cond (lt y angle_end) (cond (lt (neg angle_end) y) r nan) nan

pub sin : Float → Float
sin y = angle_or_nan y (sin_in (quadrant (quarters y)) (angle_rest y (quarters y)))

pub cos : Float → Float
cos y = angle_or_nan y (cos_in (quadrant (quarters y)) (angle_rest y (quarters y)))
