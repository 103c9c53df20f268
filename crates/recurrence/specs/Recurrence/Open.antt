-- What each definition is, case by case, for the proofs of this crate. No other crate cites this module:
-- proofs/Laws.antt passes on what `rungs` and `table_mirror` need.
use Rattle.std.specs.Prelude.{◌≡◌, refl, ℕ, Bool, true, false, ◌&&◌, cond, eqb, Float}
use Rattle.std.specs.Float.Ieee.{neg, eq}
use Rattle.floats.specs.Operations.{◌⊕◌, ◌⊖◌, ◌⊗◌, ◌⊘◌, whole, f0, f1, f2}
use Rattle.floats.specs.declared.Function.{Function}
use Rattle.floats.specs.declared.Function.TheVariants.{D, «V»}
use Rattle.recurrence.specs.Recurrence.{step, own_rung_two, next_rung, step_down}

pub step_D_above : (x : Float) (f : Float) (k : ℕ) (low : Float) (high : Float)
    → step D false x f k low high ≡ x ⊗ high ⊖ (whole k ⊕ f ⊖ f1) ⊗ low
unfolding step
step_D_above x f k low high = refl

pub step_D_below : (x : Float) (f : Float) (k : ℕ) (low : Float) (high : Float)
    → step D true x f k low high ≡ (neg x ⊗ high ⊕ low) ⊘ (whole k ⊖ f1 ⊖ f)
unfolding step
step_D_below x f k low high = refl

pub step_V_above : (x : Float) (f : Float) (k : ℕ) (low : Float) (high : Float)
    → step «V» false x f k low high ≡ (x ⊗ high ⊖ low) ⊘ (whole k ⊕ f)
unfolding step
step_V_above x f k low high = refl

pub step_V_below : (x : Float) (f : Float) (k : ℕ) (low : Float) (high : Float)
    → step «V» true x f k low high ≡ x ⊗ high ⊕ (whole k ⊖ f ⊖ f2) ⊗ low
unfolding step
step_V_below x f k low high = refl

pub own_rung_two_D : (below : Bool) (f : Float) → own_rung_two D below f ≡ false
unfolding own_rung_two
own_rung_two_D below f = refl

pub own_rung_two_V_above : (f : Float) → own_rung_two «V» false f ≡ false
unfolding own_rung_two
own_rung_two_V_above f = refl

pub own_rung_two_V_below : (f : Float) → own_rung_two «V» true f ≡ eq f f0
unfolding own_rung_two
own_rung_two_V_below f = refl

pub next_rung_is : (fn : Function) (below : Bool) (x : Float) (f : Float) (k : ℕ) (low : Float) (high : Float)
    → next_rung fn below x f k low high
    ≡ cond (own_rung_two fn below f && eqb k 2) (x ⊗ high) (step fn below x f k low high)
unfolding next_rung
next_rung_is fn below x f k low high = refl

pub step_down_D : (x : Float) (f : Float) (k : ℕ) (low : Float) (high : Float)
    → step_down D x f k low high ≡ x ⊗ low ⊕ (whole k ⊖ f ⊕ f1) ⊗ high
unfolding step_down
step_down_D x f k low high = refl

pub step_down_V : (x : Float) (f : Float) (k : ℕ) (low : Float) (high : Float)
    → step_down «V» x f k low high ≡ x ⊗ low ⊖ (whole k ⊕ f ⊕ f2) ⊗ high
unfolding step_down
step_down_V x f k low high = refl

pub ruleset step_laws = (step_D_above, step_D_below, step_V_above, step_V_below, step_down_D, step_down_V)

pub ruleset rung_two_laws = (own_rung_two_D, own_rung_two_V_above, own_rung_two_V_below, next_rung_is)
