-- The mirror check (02, #101): for D at a whole order m from 0 to 999, rung k at −x is (−1)^k times rung k at x, and
-- derivative k carries the opposite sign.
use Rattle.std.specs.Prelude.{◌≡◌, List, ◌⊎◌, Bool, true, false, cond, ℕ, ◌+◌, ◌*◌, ◌%◌, ◌≤◌, T, eqb, length, get_or, Float}
use Rattle.std.proofs.Math.Option.{Option, some}
use Rattle.std.specs.Float.{nan, binary64}
use Rattle.std.specs.Float.Ieee.{neg, eq, fits, is_nan}
use Rattle.floats.specs.Operations.{whole, f0}
use Rattle.floats.specs.declared.Function.TheVariants.{D}
use Rattle.mirror_images.specs.Images.{MirrorOf, odd}
use Rattle.order.specs.Whole.{WholeOrder}
use Rattle.tables.specs.Tables.{table_after, answer}

-- y is −x, by the comparison of floats: so neither is NaN, and at 0 either zero is the opposite of either. Every f64 of a
-- program fits.
pub record Opposite (x y : Float) : Type 0 where
  pub same : eq y (neg x) ≡ true
  pub fit : T (fits binary64 x)
  pub fit_there : T (fits binary64 y)

-- the rungs of a table: values 0 to m + 1 at the slots from 0 on, derivatives 0 to m at those from m + 3 on
abbrev pub ValueRung : ℕ → ℕ → Type 0
ValueRung m k = k ≤ m + 1

abbrev pub DerivativeRung : ℕ → ℕ → Type 0
DerivativeRung m k = k ≤ m

-- the tables that come back at x and at y
pub record TablesMirrored (m : ℕ) (t r : List Float) : Type 0 where
  pub values : (k : ℕ) → ValueRung m k → MirrorOf (odd k) (get_or t k nan) (get_or r k nan)
  pub derivatives : (k : ℕ) → DerivativeRung m k → MirrorOf (odd (k + 1)) (get_or t (m + 3 + k) nan) (get_or r (m + 3 + k) nan)

-- no rung is left out: every other slot of the table t that comes back is as it was found in l
abbrev pub OthersAsFound : ℕ → List Float → List Float → Type 0
OthersAsFound m l t =
    (k : ℕ) → (ValueRung m k → ⊥) → ((j : ℕ) → DerivativeRung m j → k ≡ m + 3 + j → ⊥) → get_or t k nan ≡ get_or l k nan

-- what is answered at x and at y: value and derivative m
pub record AnswersMirrored (m : ℕ) (p q : Option (Float × Float)) : Type 0 where
  pub pair : Float × Float
  pub image : Float × Float
  pub answered : p ≡ some pair
  pub answered_there : q ≡ some image
  pub value : MirrorOf (odd m) pair.0 image.0
  pub derivative : MirrorOf (odd (m + 1)) pair.1 image.1

-- two table calls, for v at x with the table l, for w at y with the table r
pub record Mirrored (m : ℕ) (v x : Float) (l : List Float) (w y : Float) (r : List Float) : Type 0 where
  pub tables : TablesMirrored m (table_after D v x l) (table_after D w y r)
  pub answers : AnswersMirrored m (answer D v x (length l)) (answer D w y (length r))
  pub others : OthersAsFound m l (table_after D v x l)
  pub others_there : OthersAsFound m r (table_after D w y r)

-- THE MIRROR CHECK
pub record MirrorCheck : Type 0 where
  -- for every order m, every x but NaN, ±0 and the infinities too, and any two tables that are long enough, whatever they
  -- hold
  pub mirrored : (m : ℕ) (v x : Float) (l : List Float) (w y : Float) (r : List Float) → WholeOrder v m → WholeOrder w m
      → Opposite x y → 2 * (m + 3) ≤ length l → 2 * (m + 3) ≤ length r → Mirrored m v x l w y r
  -- the orders that this is about: every whole number from 0 to 999, and −0.0
  pub orders : (m : ℕ) → m ≤ 999 → WholeOrder (whole m) m
  pub minus_zero : WholeOrder (neg f0) 0
  -- the arguments: every x but NaN and its opposite, and 0.0 and itself
  pub arguments : (x : Float) → T (fits binary64 x) → is_nan x ≡ false → Opposite x (neg x)
  pub centre : Opposite f0 f0
  -- an image in IEEE 754's words: both are NaN, or b is equal to a, or to −a
  pub images : (opposite : Bool) (a b : Float) → MirrorOf opposite a b
      → (T (is_nan a) × T (is_nan b)) ⊎ T (eq b (cond opposite (neg a) a))
  pub signs : (k : ℕ) → odd k ≡ eqb (k % 2) 1
