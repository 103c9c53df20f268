-- D's rungs from order 0 on with no fraction, at x and at −x: by induction over the recurrence, and their derivatives.
use Rattle.std.proofs.Common.{◌≡◌, sym, ap, ◌∙◌, ◌⊎◌, inl, inr, ℕ, zero, suc, ◌+◌, add-one, Bool, true, false}
use Rattle.std.proofs.Common.{not, T, Float}
use Rattle.std.specs.Float.Ieee.{binary64, neg, eq}
use Rattle.std.proofs.Math.Bool.{not-not}
use Rattle.floats.specs.Operations.{◌⊕◌, ◌⊖◌, ◌⊗◌, whole, f0, f1, f¼}
use Rattle.floats.specs.declared.Function.TheVariants.{D}
use Rattle.floats.proofs.Opposites.{square_same}
use Rattle.exponential.specs.Exponential.{exp}
use Rattle.mirror_images.specs.Images.{MirrorOf, odd}
use Rattle.mirror_images.proofs.Laws.{odd_zero, odd_next, itself, difference, times, times_argument, times_half}
use Rattle.mirror_images.proofs.Opposites.{opposite_images}
use Rattle.recurrence.proofs.Laws.{step_D_above}
use Rattle.derivatives.specs.Derivatives.{derivative}
use Rattle.derivatives.proofs.Laws.{derivative_D_above}
use Rattle.rungs.specs.Rungs.{gaussian, rung}
use Rattle.rungs.proofs.Laws.{gaussian_is, gaussian_zero, gaussian_one, gaussian_next}

-- e^(−x²/4) is the same at −x, to the bit
gaussian_same : (x y : Float) → (y ≡ neg x) ⊎ ((y ≡ x) × T (eq x f0)) → gaussian y ≡ gaussian x
gaussian_same x y (inl e) = rw e (gaussian_is (neg x) ∙ ap exp (square_same binary64 (neg f¼) x) ∙ sym (gaussian_is x))
gaussian_same x y (inr (e, z)) = ap gaussian e

module _ (f : Float) (none : eq f f0 ≡ true) where
  -- rung k at an argument
  abbrev at : Float → ℕ → Float
  at x = rung (record { function = D; below = false; x = x; f = f })

  later : (x : Float) (k : ℕ) → at x (suc (suc k)) ≡ x ⊗ at x (suc k) ⊖ (whole (k + 2) ⊕ f ⊖ f1) ⊗ at x k
  later x k = gaussian_next x f none k ∙ step_D_above x f (k + 2) (at x k) (at x (suc k))

  module _ (x y : Float) (opposite : (y ≡ neg x) ⊎ ((y ≡ x) × T (eq x f0))) where
    turned : MirrorOf true x y
    turned = opposite_images x y opposite

    abbrev Image : Bool → ℕ → Type 0
    Image s k = MirrorOf s (at x k) (at y k)

    image_zero : Image false 0
    image_zero = rw (gaussian_zero x f none, gaussian_zero y f none, gaussian_same x y opposite) (itself (gaussian x))

    image_one : Image true 1
    image_one = rw (gaussian_one x f none, gaussian_one y f none, gaussian_same x y opposite) (times_argument turned (itself (gaussian x)))

    image_next : (k : ℕ) (s : Bool) → Image s k → Image (not s) (suc k) → Image (not (not s)) (suc (suc k))
    image_next k s low high =
        rw (later x k, later y k)
        (difference (times_argument turned high) (rw (not-not s) (times (whole (k + 2) ⊕ f ⊖ f1) low)))

    images : (k : ℕ) → Image (odd k) k × Image (not (odd k)) (suc k)
    images zero = rw odd_zero (image_zero, image_one)
    images (suc k) = let p = images k in rw (odd_next k) (p.1, image_next k (odd k) p.0 p.1)

    -- VALUE k
    pub value_image : (k : ℕ) → MirrorOf (odd k) (at x k) (at y k)
    value_image k = (images k).0

    -- DERIVATIVE k
    pub derivative_image : (k : ℕ)
        → MirrorOf (odd (k + 1)) (derivative D false x f k (at x k) (at x (suc k))) (derivative D false y f k (at y k) (at y (suc k)))
    derivative_image k =
        let p = images k in
        rw (add-one k, odd_next k, derivative_D_above x f k (at x k) (at x (suc k)), derivative_D_above y f k (at y k) (at y (suc k)))
        (difference (times_half turned p.0) p.1)
