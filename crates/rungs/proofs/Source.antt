-- The definitions are the source's text, in the records of specs/Source.antt.
use Rattle.std.proofs.Common.{◌≡◌, refl, sym, ap, ◌∙◌, subst, Bool, true, false, cond, ℕ, zero, suc, ◌+◌, ◌-◌, ◌≤◌}
use Rattle.std.proofs.Common.{arith, T, ℤ, pos, neg_ℤ, nat_abs}
use Rattle.std.specs.Float.Ieee.{Float, nan, inf, fin, neg, lt, le, of_bits, of_int, to_signed}
use Rattle.std.specs.Float.Ieee.Bits.{is_false}
use Rattle.floats.specs.Operations.{◌⊕◌, float, whole, decimal, f0, f1, f¼_is}
use Rattle.floats.specs.Facts.{signed_int}
use Rattle.floats.proofs.Comparison.{float_lt_total, lt_no_nan}
use Rattle.signs.specs.Signs.{absolute}
use Rattle.start_sums_small.specs.SmallSums.{vvsa}
use Rattle.start_sums_large.specs.Constants.{root_two_over_pi_is}
use Rattle.start_sums_large.specs.StartSums.{vvla}
use Rattle.floats.specs.declared.Function.TheVariants.{«V»}
use Rattle.order.specs.Order.{below, shifted, fraction_of, top_rung, num}
use Rattle.order.specs.Facts.{InRange, Split}
use Rattle.order.proofs.Facts.{split_facts, whole_part_signed}
use Rattle.order.proofs.Laws.{joined_below}
use Rattle.order.proofs.Tests.{cut_above, cut_below, one_or_more, zero_up, zero_down, fraction_plus_zero, fraction_less_zero}
use Rattle.recurrence.specs.Recurrence.{step_down}
use Rattle.recurrence.proofs.Laws.{own_rung_two_D, own_rung_two_V_above, own_rung_two_V_below, next_rung_is}
use Rattle.branches.specs.Constants.{f7·5, f7·5_is}
use Rattle.branches.proofs.Laws.{V_scaled}
use Rattle.order.specs.declared.Sequence.{Sequence}
use Rattle.rungs.specs.Constants.{f5·8_is}
use Rattle.rungs.specs.Rungs.{start_value, top_rungs, seed, raw_rung}
use Rattle.rungs.specs.Rungs.Open.{start_laws}
use Rattle.rungs.specs.Source.{sequence, SideOfShifted, StartLoops, top_of_d, TopOfD, TopOfV, StartValues, StartRungs}
use Rattle.rungs.specs.Source.{ForwardColumn, DownwardColumn, ScaledColumn, Columns, AsSource}
use Rattle.rungs.proofs.Laws.{rungs_zero_one, rung_two, own_rung_two_law, rung_step, descent_above, descent_top, descent_step}
use Rattle.rungs.proofs.Laws.{downward_rung_law, raw_rung_law, scaled_rung_law, value_forward, value_downward, value_scaled, derivative_at_law}

-- ---- the side, and the start loops

one_is : whole 1 ≡ f1
unfolding of_int of_bits
one_is = refl

module _ (v : Float) (r : InRange v) where
  abbrev facts : Split (below v) (shifted v) (fraction_of v) (top_rung v) (num v)
  facts = split_facts v r

  side_of_shifted : SideOfShifted v
  side_of_shifted = record {
    up = zero_up facts;
    down = zero_down facts;
  }

  start_loops : StartLoops v
  start_loops = record {
    turns = facts.least;
    up = (fraction_plus_zero facts, grind (arith, start_laws, one_is));
    down = (fraction_less_zero facts, grind (arith, start_laws, one_is));
  }

-- ---- the top rungs

not_zero : (n : ℕ) → 1 ≤ n → neg_ℤ (pos n) ≡ pos 0 → ⊥
not_zero zero h e = absurd (omega arith)
not_zero (suc n) h e = let z : suc n ≡ 0 = ap nat_abs e in omega arith

module _ (v x : Float) (r : InRange v) where
  abbrev split : Split (below v) (shifted v) (fraction_of v) (top_rung v) (num v)
  split = split_facts v r

  on_side : (s : Bool) → below v ≡ s → Split s (shifted v) (fraction_of v) (top_rung v) (num v)
  on_side s e = subst (λ (b : Bool). Split b (shifted v) (fraction_of v) (top_rung v) (num v)) e split

  -- N + f is u
  top_is : top_of_d v ≡ shifted v
  top_is = ap (λ (z : ℤ). float z ⊕ fraction_of v) (whole_part_signed v r) ∙ split.joined

  top_of_D : below v ≡ true → TopOfD v x
  top_of_D s =
      let n = top_rung v in
      let facts = on_side true s in
      let same = joined_below facts ∙ sym top_is in
      record {
        kept = λ e. not_zero n facts.least (sym (whole_part_signed v r ∙ ap (λ (b : Bool). signed_int b n) s) ∙ e);
        slot = ap (λ (w : Float). to_signed 31 (neg w)) top_is ∙ cut_below facts;
        rungs = grind (arith, start_laws);
      }

  top_of_V : below v ≡ false → TopOfV v x
  top_of_V s =
      let facts = on_side false s in
      record {
        kept = one_or_more facts;
        slot = cut_above facts;
        rungs = grind (arith, start_laws);
      }

-- ---- start values

own_size : (x : Float) → T (lt f7·5 x) → absolute x ≡ x
unfolding lt absolute of_bits
own_size nan t = absurd t
own_size (inf true) t = absurd t
own_size (inf false) t = refl
own_size (fin true m e) t = absurd t
own_size (fin false m e) t = refl

beyond : (x : Float) → T (lt f7·5 x) → le (absolute x) f7·5 ≡ false
beyond x t =
    let p = lt_no_nan f7·5 x t in
    ap (λ (y : Float). le y f7·5) (own_size x t) ∙ is_false (le x f7·5) (subst T (float_lt_total f7·5 x p.0 p.1) t)

start_values : (s : Bool) (x f va : Float) → StartValues s x f va
start_values s x f va = record {
  d = grind (arith, start_laws, f5·8_is);
  v = by_size;
  v_scaled = λ u e. by_size ∙ rw (← f7·5_is, beyond x (subst T (sym (V_scaled s x u e)) tt));
}
  where
    by_size : start_value (sequence «V» s x f) va ≡ cond (le (absolute x) (decimal 75 1)) (vvsa x va) (vvla x va)
    by_size = grind (arith, start_laws, f7·5_is)

-- ---- start rungs

start_rungs_of : (x f : Float) → StartRungs x f
start_rungs_of x f = record {
  d_gaussian = λ e. grind (arith, start_laws, f¼_is);
  d_up = λ e. grind (arith, start_laws, own_rung_two_D);
  d_down = grind (arith, start_laws, own_rung_two_D);
  v_own = λ e. grind (arith, start_laws, own_rung_two_V_below, f¼_is, root_two_over_pi_is);
  v_down = λ e. grind (arith, start_laws, own_rung_two_V_below);
  v_up = grind (arith, start_laws, own_rung_two_V_above);
}

-- ---- the columns

forward_column_of : (r : Sequence) → ForwardColumn r
forward_column_of r = record {
  first = sym (rungs_zero_one r);
  own_two = λ own. sym (own_rung_two_law r own);
  two = λ other. let turn = rung_two r in grind (arith, next_rung_is);
  each = λ k h. sym (rung_step r k h);
}

downward_column_of : (r : Sequence) (u : Float) (n : ℕ) → 1 ≤ n → DownwardColumn r u n
downward_column_of r u n h =
    let low = (top_rungs r u n).0 in
    let high = (top_rungs r u n).1 in
    let at = downward_rung_law r u n in
    let lower = descent_top r (n - 1) low high in
    let upper = descent_above r (n - 1) low high in
    record {
      top = grind arith;
      each = λ k b. let below = descent_step r (n - 1) low high k (omega arith) in grind arith;
    }

module _ (r : Sequence) (n : ℕ) where
  low : raw_rung r n (n + 101) ≡ seed r.function
  low = raw_rung_law r n (n + 101) ∙ descent_top r (n + 101) (seed r.function) f0

  high : raw_rung r n (n + 102) ≡ f0
  high = let above = descent_above r (n + 101) (seed r.function) f0 in grind (arith, raw_rung_law)

  each : (k : ℕ) → k ≤ n + 100 → raw_rung r n k ≡ step_down r.function r.x r.f k (raw_rung r n (k + 1)) (raw_rung r n (k + 2))
  each k h = let below = descent_step r (n + 101) (seed r.function) f0 k (omega arith) in grind (arith, raw_rung_law)

  first : raw_rung r n (n + 100) ≡ step_down r.function r.x r.f (n + 100) (seed r.function) f0
  first = let turn = each (n + 100) (omega arith) in grind (arith, low, high)

  scaled_column : ScaledColumn r n
  scaled_column = record { low = low; high = high; first = first; each = each; scaled = scaled_rung_law r n }

columns_of : (r : Sequence) (u : Float) (n : ℕ) → Columns r u n
columns_of r u n = record {
  forward = value_forward r u n;
  downward = value_downward r u n;
  scaled = value_scaled r u n;
  derivatives = derivative_at_law r u n;
}

pub as_source : AsSource
as_source = record {
  side = side_of_shifted;
  start_loops = start_loops;
  top_of_d_law = top_of_D;
  top_of_v = top_of_V;
  start_values = start_values;
  start_rungs_law = start_rungs_of;
  forward_column = forward_column_of;
  downward_column = downward_column_of;
  scaled_column = scaled_column;
  columns = columns_of;
}
