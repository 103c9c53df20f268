-- The refusal by the outcomes of its tests.
use Rattle.std.proofs.Common.{◌≡◌, refl, Ok, Err, sym, ◌∙◌, Bool, T, true, false, ◌||◌, cond, ℕ, arith, Float}
use Rattle.std.specs.Float.{binary64}
use Rattle.std.specs.Float.Ieee.{is_nan, fits}
use Rattle.order.specs.Order.{too_large, below, shifted, fraction_of, top_rung, num}
use Rattle.order.specs.Facts.{Split}
use Rattle.order.proofs.Facts.{split_facts}
use Rattle.answer.specs.Answer.{number, refusal_of}
use Rattle.answer.specs.declared.Refusal.{Refusal}
use Rattle.table_refusals.specs.Refusals.{refusal_by}
use Rattle.table_refusals.specs.Refusals.Open.{refusal_by_is}

module _ (v x : Float) (short : Bool) where
  pub refused_order_law : is_nan v ≡ true → 1 ≡ refusal_by v x short
  refused_order_law a = rw (refusal_by_is v x short, a)

  pub refused_argument : is_nan v ≡ false → is_nan x ≡ true → 1 ≡ refusal_by v x short
  refused_argument a b = rw (refusal_by_is v x short, a, b)

  pub refused_size : is_nan v ≡ false → is_nan x ≡ false → too_large v ≡ true → 2 ≡ refusal_by v x short
  refused_size a b c = rw (refusal_by_is v x short, a, b, c)

  pub refused_short : is_nan v ≡ false → is_nan x ≡ false → too_large v ≡ false → short ≡ true → 3 ≡ refusal_by v x short
  refused_short a b c d = rw (refusal_by_is v x short, a, b, c, d)

  pub not_refused : is_nan v ≡ false → is_nan x ≡ false → too_large v ≡ false → short ≡ false → 0 ≡ refusal_by v x short
  not_refused a b c d = rw (refusal_by_is v x short, a, b, c, d)

  pub of_numbers : is_nan v ≡ false → is_nan x ≡ false → refusal_by v x short ≡ cond (too_large v) 2 (cond short 3 0)
  of_numbers a b = rw (refusal_by_is v x short, a, b)

  -- a request that is not refused
  pub accepted_by : refusal_by v x short ≡ 0 → (is_nan v ≡ false) × (is_nan x ≡ false) × (too_large v ≡ false) × (short ≡ false)
  accepted_by e = passed (is_nan v) (is_nan x) (too_large v) short (sym (refusal_by_is v x short) ∙ e)
    where
      passed : (a b c d : Bool) → ◌≡◌ {A = ℕ} (cond (a || b) 1 (cond c 2 (cond d 3 0))) 0 → (a ≡ false) × (b ≡ false) × (c ≡ false) × (d ≡ false)
      passed true b c d e = absurd (omega arith)
      passed false true c d e = absurd (omega arith)
      passed false false true d e = absurd (omega arith)
      passed false false false true e = absurd (omega arith)
      passed false false false false e = (refl, refl, refl, refl)

  -- what 1 or 2 refuses, the table left out, and what neither does
  pub refused_before : (refusal_by v x false ≡ 0 → ⊥) → refusal_by v x false ≡ refusal_by v x short
  refused_before h =
      rw (refusal_by_is v x false, refusal_by_is v x short) (go (is_nan v || is_nan x) (too_large v) (λ e. h (refusal_by_is v x false ∙ e)))
    where
      go : (a b : Bool) → (◌≡◌ {A = ℕ} (cond a 1 (cond b 2 0)) 0 → ⊥) → ◌≡◌ {A = ℕ} (cond a 1 (cond b 2 0)) (cond a 1 (cond b 2 (cond short 3 0)))
      go true b h = refl
      go false true h = refl
      go false false h = absurd (h refl)

  pub by_short : refusal_by v x false ≡ 0 → refusal_by v x short ≡ cond short 3 0
  by_short e = rw (refusal_by_is v x short) (go (is_nan v || is_nan x) (too_large v) (sym (refusal_by_is v x false) ∙ e))
    where
      go : (a b : Bool) → ◌≡◌ {A = ℕ} (cond a 1 (cond b 2 0)) 0 → ◌≡◌ {A = ℕ} (cond a 1 (cond b 2 (cond short 3 0))) (cond short 3 0)
      go true b e = absurd (omega arith)
      go false true e = absurd (omega arith)
      go false false e = refl

-- the facts of the order of a request that is not refused; every f64 of a program fits
pub order_facts : (v x : Float) (short : Bool) → T (fits binary64 v) → refusal_by v x short ≡ 0 → Split (below v) (shifted v) (fraction_of v) (top_rung v) (num v)
order_facts v x short fit e = let a = accepted_by v x short e in split_facts v (record { number = a.0; small = a.2; fit = fit })

-- the number of an outcome, and of a request: what `check` is proved by
module _ (A : Type 0) where
  pub no_number : (a : A) → refusal_of {A = A} (Ok a) ≡ 0
  unfolding refusal_of
  no_number a = refl

  pub number_of : (refusal : Refusal) → refusal_of {A = A} (Err refusal) ≡ number refusal
  unfolding refusal_of
  number_of refusal = refl

pub ruleset outcomes = (no_number, number_of, refusal_by_is)
