-- What each definition of Trigonometric.antt says. Only this crate's own proofs cite these laws: the crates above go by
-- promise.
use Rattle.std.specs.Prelude.{◌≡◌, refl, ℕ, ◌-◌, ◌%◌, pos, negsuc, Float}
use Rattle.std.specs.Float.Ieee.{neg}
use Rattle.floats.specs.Operations.{◌⊗◌, f1}
use Rattle.floats.specs.Loops.{down_to}
use Rattle.trigonometric.specs.Trigonometric.{quarters, angle_rest, trig_term, trig_sum, sine, cosine, quadrant}
use Rattle.trigonometric.specs.Trigonometric.{by_quadrant, sin_in, cos_in, angle_or_nan, sin, cos}

pub trig_sum_is : (less : ℕ) (z : Float) → trig_sum less z ≡ down_to (trig_term less z) 1 9 f1
unfolding trig_sum
trig_sum_is less z = refl

pub sine_is : (r : Float) → sine r ≡ r ⊗ trig_sum 0 (r ⊗ r)
unfolding sine
sine_is r = refl

pub cosine_is : (r : Float) → cosine r ≡ trig_sum 1 (r ⊗ r)
unfolding cosine
cosine_is r = refl

pub quadrant_pos : (n : ℕ) → quadrant (pos n) ≡ n % 4
unfolding quadrant
quadrant_pos n = refl

pub quadrant_neg : (n : ℕ) → quadrant (negsuc n) ≡ 3 - n % 4
unfolding quadrant
quadrant_neg n = refl

pub sin_in_is : (q : ℕ) (r : Float) → sin_in q r ≡ by_quadrant q (sine r) (cosine r) (neg (sine r)) (neg (cosine r))
unfolding sin_in
sin_in_is q r = refl

pub cos_in_is : (q : ℕ) (r : Float) → cos_in q r ≡ by_quadrant q (cosine r) (neg (sine r)) (neg (cosine r)) (sine r)
unfolding cos_in
cos_in_is q r = refl

pub sin_is : (y : Float) → sin y ≡ angle_or_nan y (sin_in (quadrant (quarters y)) (angle_rest y (quarters y)))
unfolding sin
sin_is y = refl

pub cos_is : (y : Float) → cos y ≡ angle_or_nan y (cos_in (quadrant (quarters y)) (angle_rest y (quarters y)))
unfolding cos
cos_is y = refl
