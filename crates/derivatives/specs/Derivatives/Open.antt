-- What the definition is, case by case, for the proofs of this crate. No other crate cites this module:
-- proofs/Laws.antt passes on what `rungs` and `table_mirror` need.
use Rattle.std.specs.Prelude.{◌≡◌, refl, ℕ, true, false, Float}
use Rattle.std.specs.Float.Ieee.{neg}
use Rattle.floats.specs.Operations.{◌⊕◌, ◌⊖◌, ◌⊗◌, whole, f½, f1}
use Rattle.signs.specs.Signs.{absolute}
use Rattle.floats.specs.declared.Function.TheVariants.{D, «V»}
use Rattle.derivatives.specs.Derivatives.{derivative}

pub derivative_D_above : (x : Float) (f : Float) (k : ℕ) (low : Float) (high : Float)
    → derivative D false x f k low high ≡ f½ ⊗ x ⊗ low ⊖ high
unfolding derivative
derivative_D_above x f k low high = refl

pub derivative_D_below : (x : Float) (f : Float) (k : ℕ) (low : Float) (high : Float)
    → derivative D true x f k low high ≡ neg f½ ⊗ x ⊗ low ⊖ (absolute f ⊕ whole k) ⊗ high
unfolding derivative
derivative_D_below x f k low high = refl

pub derivative_V_above : (x : Float) (f : Float) (k : ℕ) (low : Float) (high : Float)
    → derivative «V» false x f k low high ≡ f½ ⊗ x ⊗ low ⊖ (f ⊕ whole k ⊕ f1) ⊗ high
unfolding derivative
derivative_V_above x f k low high = refl

pub derivative_V_below : (x : Float) (f : Float) (k : ℕ) (low : Float) (high : Float)
    → derivative «V» true x f k low high ≡ neg f½ ⊗ x ⊗ low ⊕ high
unfolding derivative
derivative_V_below x f k low high = refl

pub ruleset laws = (derivative_D_above, derivative_D_below, derivative_V_above, derivative_V_below)
