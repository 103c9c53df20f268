-- The mirror check on the slots of the table call and on its answer.
use Rattle.std.proofs.Common.{◌≡◌, refl, sym, ap, ◌∙◌, subst, ◌⊎◌, inl, inr, List, true, false, not, ℕ, suc, ◌+◌, ◌-◌}
use Rattle.std.proofs.Common.{◌*◌, ◌%◌, ◌≤◌, ◌<◌, add-one, arith, T, eqb, length, get_or, Float}
use Rattle.std.proofs.Math.Option.{some}
use Rattle.std.specs.Float.Ieee.{nan, inf, fin, binary64, neg, eq, ne, fits, is_nan, of_bits}
use Rattle.std.specs.Float.Ieee.Bits.{is_true, of_bits-fits}
use Rattle.std.specs.Float.Ieee.Fits.{neg-fits}
use Rattle.std.proofs.lemmas.Bool.{not-false, not-true, cases_lt}
use Rattle.floats.specs.Operations.{f0}
use Rattle.floats.specs.declared.Function.TheVariants.{D}
use Rattle.floats.proofs.Comparison.{eq_no_nan}
use Rattle.mirror_images.specs.Images.{odd}
use Rattle.mirror_images.proofs.Laws.{in_words}
use Rattle.mirror_images.proofs.Opposites.{opposites}
use Rattle.signs.proofs.Signs.{nan_test}
use Rattle.order.specs.Order.{shifted, top_rung}
use Rattle.order.specs.Whole.{WholeOrder, limits, WholeParts}
use Rattle.order.proofs.Whole.{whole_order, whole_parts}
use Rattle.derivatives.specs.Derivatives.{derivative}
use Rattle.branches.proofs.Laws.{D_forward}
use Rattle.order.specs.declared.Sequence.{Sequence}
use Rattle.rungs.specs.Rungs.{rung}
use Rattle.rungs.proofs.Laws.{value_forward, derivative_at_law}
use Rattle.slots.specs.Slots.{slot}
use Rattle.tables.specs.Tables.{value_of, derivative_of, table_after, answer}
use Rattle.tables.specs.Slots.{Slots}
use Rattle.tables.proofs.Calls.{not_refused_long, value_of_is, derivative_of_is, values_of_D}
use Rattle.tables.proofs.Slots.{slots}
use Rattle.table_mirror.specs.Mirror.{Opposite, TablesMirrored, OthersAsFound, Mirrored, MirrorCheck}
use Rattle.table_mirror.proofs.Rungs.{value_image, derivative_image}

neg_nan : (x : Float) → is_nan (neg x) ≡ is_nan x
unfolding is_nan neg
neg_nan nan = refl
neg_nan (inf s) = refl
neg_nan (fin s m e) = refl

-- a number is equal to itself
number_itself : (x : Float) → is_nan x ≡ false → eq x x ≡ true
unfolding ne
number_itself x h = not-false _ (nan_test x ∙ h)

zero_is_zero : eq f0 f0 ≡ true
unfolding eq of_bits
zero_is_zero = refl

-- ---- the columns of a whole order are D's rungs with no fraction

module _ (v : Float) (m : ℕ) (parts : WholeParts v m) where
  abbrev rungs : Float → Sequence
  rungs x = record { function = D; below = false; x = x; f = f0 }

  values_are : (x : Float) → value_of D v x ≡ rung (rungs x)
  values_are x =
      value_of_is D v x ∙ rw (parts.side, parts.no_fraction) (value_forward (rungs x) (shifted v) (top_rung v) (D_forward x (shifted v)))

  derivatives_are : (x : Float) (k : ℕ) → derivative_of D v x k ≡ derivative D false x f0 k (rung (rungs x) k) (rung (rungs x) (suc k))
  derivatives_are x k =
      ap (λ (g : ℕ → Float). g k) (derivative_of_is D v x)
      ∙ rw (parts.side, parts.no_fraction)
      (derivative_at_law (rungs x) (shifted v) (top_rung v) k
      ∙ rw (value_forward (rungs x) (shifted v) (top_rung v) (D_forward x (shifted v)), add-one k))

  value_at : (x : Float) (k : ℕ) → value_of D v x k ≡ rung (rungs x) k
  value_at x k = ap (λ (g : ℕ → Float). g k) (values_are x)

-- ---- a table call at a whole order: which slots have its rungs, and what it answers

module _ (m : ℕ) (v x : Float) (l : List Float) (order : WholeOrder v m) (number : is_nan x ≡ false) (long : 2 * (m + 3) ≤ length l) where
  parts : WholeParts v m
  parts = whole_parts v m order

  called : Slots D v x l
  called = slots D v x l order.fit (not_refused_long v x (length l) parts.number number parts.small (rw parts.columns long))

  value_slot : (k : ℕ) → k ≤ m + 1 → get_or (table_after D v x l) k nan ≡ rung (record { function = D; below = false; x = x; f = f0 }) k
  unfolding slot
  value_slot k h = called.values k (rw parts.top h) ∙ value_at v m parts x k

  derivative_slot : (k : ℕ) → k ≤ m
      → get_or (table_after D v x l) (m + 3 + k) nan
      ≡ (let at = rung (record { function = D; below = false; x = x; f = f0 }) in derivative D false x f0 k (at k) (at (suc k)))
  unfolding slot
  derivative_slot k h =
      rw (← parts.columns) (called.derivatives k (rw parts.top (omega arith)) ∙ derivatives_are v m parts x k)

  answered_at : answer D v x (length l) ≡ some (get_or (table_after D v x l) m nan, get_or (table_after D v x l) (m + 3 + m) nan)
  unfolding slot
  answered_at =
      let e : top_rung v - 1 ≡ m = rw parts.top (omega arith) in
      called.answered ∙ rw (e, parts.columns)

  -- D writes no other slot
  others : OthersAsFound m l (table_after D v x l)
  unfolding slot
  others k no_value no_derivative =
      let above : m + 1 < k = elim (cases_lt (m + 1) k) [ inl h ↦ h | inr h ↦ absurd (no_value (omega arith)) ] in
      called.others k (rw (values_of_D v, parts.top) (omega arith)) (rw (parts.columns, parts.top) (place (cases_lt k (m + 3)) (cases_lt k (m + 3 + (m + 1)))))
    where
      place : (k < m + 3) ⊎ (m + 3 ≤ k) → (k < m + 3 + (m + 1)) ⊎ (m + 3 + (m + 1) ≤ k) → (k < m + 3) ⊎ (m + 3 + (m + 1) ≤ k)
      place (inl a) b = inl a
      place (inr a) (inl b) = absurd (no_derivative (k - (m + 3)) (omega arith) (omega arith))
      place (inr a) (inr b) = inr b

-- ---- two of them

equal_numbers : (x y : Float) → eq y (neg x) ≡ true → (is_nan x ≡ false) × (is_nan y ≡ false)
equal_numbers x y e =
    let p = eq_no_nan y (neg x) (subst T (sym e) tt) in
    (sym (neg_nan x) ∙ not-true _ (is_true (not (is_nan (neg x))) p.1), not-true _ (is_true (not (is_nan y)) p.0))

module _ (m : ℕ) (v x : Float) (l : List Float) (w y : Float) (r : List Float) (here : WholeOrder v m) (there : WholeOrder w m) (opposite : Opposite x y)
    (long : 2 * (m + 3) ≤ length l) (long' : 2 * (m + 3) ≤ length r) where
  numbers : (is_nan x ≡ false) × (is_nan y ≡ false)
  numbers = equal_numbers x y opposite.same

  turned : (y ≡ neg x) ⊎ ((y ≡ x) × T (eq x f0))
  turned = opposites x y opposite.fit opposite.fit_there opposite.same

  tables : TablesMirrored m (table_after D v x l) (table_after D w y r)
  tables = record {
    values =
        λ k h. rw (value_slot m v x l here numbers.0 long k (omega arith), value_slot m w y r there numbers.1 long' k (omega arith))
        (value_image f0 zero_is_zero x y turned k);
    derivatives =
        λ k h. rw (derivative_slot m v x l here numbers.0 long k (omega arith), derivative_slot m w y r there numbers.1 long' k (omega arith))
        (derivative_image f0 zero_is_zero x y turned k);
  }

  mirrored : Mirrored m v x l w y r
  mirrored = record {
    tables = tables;
    answers = record {
      pair = (get_or (table_after D v x l) m nan, get_or (table_after D v x l) (m + 3 + m) nan);
      image = (get_or (table_after D w y r) m nan, get_or (table_after D w y r) (m + 3 + m) nan);
      answered = answered_at m v x l here numbers.0 long;
      answered_there = answered_at m w y r there numbers.1 long';
      value = tables.values m (omega arith);
      derivative = tables.derivatives m (omega arith);
    };
    others = others m v x l here numbers.0 long;
    others_there = others m w y r there numbers.1 long';
  }

-- ---- the words of the statement

opposite_arguments : (x : Float) → T (fits binary64 x) → is_nan x ≡ false → Opposite x (neg x)
opposite_arguments x p h = record { same = number_itself (neg x) (neg_nan x ∙ h); fit = p; fit_there = neg-fits binary64 x p }

zero_centre : eq f0 (neg f0) ≡ true
unfolding eq neg of_bits
zero_centre = refl

odd_is : (k : ℕ) → odd k ≡ eqb (k % 2) 1
unfolding odd
odd_is k = refl

pub mirror_check : MirrorCheck
mirror_check = record {
  mirrored = mirrored;
  orders = whole_order;
  minus_zero = limits.1;
  arguments = opposite_arguments;
  centre = record { same = zero_centre; fit = of_bits-fits binary64 0; fit_there = of_bits-fits binary64 0 };
  images = in_words;
  signs = odd_is;
}
