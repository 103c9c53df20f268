-- What ends the calls: the falling number of their cycle.
use Rattle.std.proofs.Common.{◌≡◌, subst, true, ℕ, ◌<◌, lit<, Float}
use Rattle.std.specs.Float.Ieee.{lt, neg}
use Rattle.floats.specs.Operations.{f0}
use Rattle.signs.proofs.Signs.{negated_not_below}
use Rattle.start_sums_large.specs.StartSums.{falling_number}

-- a call at −x has a smaller falling number
pub falls : (x : Float) (t : ℕ) → lt x f0 ≡ true → falling_number x ≡ t → falling_number (neg x) < t
falls x t h e = rw (negated_not_below x h) (subst (λ (j : ℕ). 0 < j) (rw h at e) (lit< tt))
