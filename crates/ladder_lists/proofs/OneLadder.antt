-- P11: D, x = 0, v = 2, 4, 4, 2 on one ladder, with tables of 6 and 5 slots, whatever they hold: by demand 3, the machine's cases and the table call's
-- answers.
use Rattle.std.proofs.Common.{◌≡◌, refl, sym, ap, ◌∙◌, List, [], ◌∷◌, map, inr, ℕ, ◌*◌, le_of_eq, arith, length, get_or}
use Rattle.std.proofs.Common.{replicate, Float}
use Rattle.std.proofs.Math.Option.{Option, some}
use Rattle.std.specs.Float.{nan}
use Rattle.std.specs.Float.Ieee.{neg, fits, is_nan, of_bits}
use Rattle.std.proofs.Math.ListN.{length-replicate}
use Rattle.floats.proofs.Examples.{entry_of}
use Rattle.floats.specs.Operations.{bits, decimal, f0, f1, f2, f2_is}
use Rattle.order.specs.Order.{num}
use Rattle.order.proofs.Laws.{order_two, order_four, large, top, columns}
use Rattle.slots.specs.Slots.{filled}
use Rattle.slots.proofs.Filled.{filled_in, filled_out}
use Rattle.floats.specs.declared.Function.TheVariants.{D}
use Rattle.tables.specs.Tables.{answer}
use Rattle.tables.proofs.Values.{P7, four_values, four_answer}
use Rattle.ladder_machine.specs.declared.Request.{Request}
use Rattle.ladder_machine.specs.Machine.{asks, repeats, climbs, starts_over, effect, verdicts, empty}
use Rattle.ladder_machine.proofs.Laws.{written_repeats, written_climbs, written_starts_over}
use Rattle.ladder_machine.proofs.Values.{P11_verdicts}
use Rattle.ladder_states.specs.declared.Ladder.{Ladder}
use Rattle.ladder_states.specs.States.{empty_state}
use Rattle.ladder.specs.declared.Reply.{Reply}
use Rattle.ladder.specs.Ladder.{written_of, pair_in, given_by, Outcome, outcome, requested}
use Rattle.ladder.proofs.Outcomes.{lengths_kept}
use Rattle.ladder_lists.specs.Demand3.{Call, ask, fed, called_by, turns, Numbers, Long, tabled_value, tabled_derivative, pair_due, values_due, derivatives_due, due, due_all}
use Rattle.ladder_lists.specs.Examples.{on_one_ladder, shown, two, four}
use Rattle.ladder_lists.proofs.Held.{Known, table_value, table_derivative}
use Rattle.ladder_lists.proofs.Lists.{demand3}

-- a table for each request, just long enough
abbrev pub table : Request → List Float
table q = replicate (2 * num q.v) f0

pub long : Long table
long q number small = le_of_eq (sym (length-replicate (2 * num q.v) f0))

pub two_answer : answer D (decimal 2 0) f0 (length (table two)) ≡ some (neg f1, f0)
two_answer = rw (length-replicate (2 * num (decimal 2 0)) f0, columns (decimal 2 0) _ order_two) P7

pub answer_at_four : answer D (decimal 4 0) f0 (length (table four)) ≡ some (decimal 3 0, f0)
answer_at_four = rw (length-replicate (2 * num (decimal 4 0)) f0, columns (decimal 4 0) _ order_four) four_answer

module _ (l d : List Float) (el : length l ≡ 6) (ed : length d ≡ 5) where
  abbrev first : Outcome
  first = requested empty_state two l d

  abbrev second : Outcome
  second = requested first.given.state four first.values first.derivatives

  abbrev third : Outcome
  third = requested second.given.state four second.values second.derivatives

  abbrev fourth : Outcome
  fourth = requested third.given.state two third.values third.derivatives

  abbrev cs : List Call
  cs = ask two l d ∷ ask four first.values first.derivatives ∷ ask four second.values second.derivatives ∷ ask two third.values third.derivatives ∷ []

  numbers : Numbers cs
  unfolding of_bits decimal fits
  numbers = ((tt, tt), ((tt, tt), ((tt, tt), ((tt, tt), tt))))

  -- the machine is fed 6 and 5 each time
  said : verdicts empty (map fed cs) ≡ starts_over 3 ∷ climbs 3 5 ∷ repeats 5 ∷ starts_over 3 ∷ []
  said =
      let a = lengths_kept empty_state two l d in
      let b = lengths_kept first.given.state four first.values first.derivatives in
      let c = lengths_kept second.given.state four second.values second.derivatives in
      rw (c.0, c.1, b.0, b.1, a.0, a.1, el, ed) P11_verdicts

  -- each outcome is the one due
  pub outcomes : first ∷ second ∷ third ∷ fourth ∷ [] ≡ due_all table empty_state (starts_over 3 ∷ climbs 3 5 ∷ repeats 5 ∷ starts_over 3 ∷ []) cs
  unfolding turns called_by
  outcomes = (demand3.lists table long empty_state demand3.begins cs numbers).calls ∙ rw said

  -- P11
  pub shows : map shown (on_one_ladder empty_state (two ∷ four ∷ four ∷ two ∷ []) l d)
      ≡ (some 4, some (neg f1, f0)) ∷ (some 2, some (decimal 3 0, f0)) ∷ (some 0, some (decimal 3 0, f0)) ∷ (some 4, some (neg f1, f0)) ∷ []
  unfolding on_one_ladder shown due_all due pair_due effect
  shows = ap (map shown) outcomes ∙ rw (two_answer, answer_at_four, written_starts_over 3, written_climbs 3 5, written_repeats 5)

  -- after the last request slots 4 of both tables still hold what the second wrote: the last one writes values 0 to 3 and derivatives 0 to 2
  second_values : second.values ≡ filled (tabled_value table four) 4 4 2 first.values
  unfolding due_all due values_due effect
  second_values = ap (λ o. o.values) (entry_of outcomes 1 first)

  third_values : third.values ≡ second.values
  unfolding due_all due values_due effect filled
  third_values = ap (λ o. o.values) (entry_of outcomes 2 first)

  fourth_values : fourth.values ≡ filled (tabled_value table two) 0 0 4 third.values
  unfolding due_all due values_due effect
  fourth_values = ap (λ o. o.values) (entry_of outcomes 3 first)

  second_derivatives : second.derivatives ≡ filled (tabled_derivative table four) 3 3 2 first.derivatives
  unfolding due_all due derivatives_due effect
  second_derivatives = ap (λ o. o.derivatives) (entry_of outcomes 1 first)

  third_derivatives : third.derivatives ≡ second.derivatives
  unfolding due_all due derivatives_due effect filled
  third_derivatives = ap (λ o. o.derivatives) (entry_of outcomes 2 first)

  fourth_derivatives : fourth.derivatives ≡ filled (tabled_derivative table two) 0 0 3 third.derivatives
  unfolding due_all due derivatives_due effect
  fourth_derivatives = ap (λ o. o.derivatives) (entry_of outcomes 3 first)

  pub stored_value : get_or fourth.values 4 nan ≡ tabled_value table four 4
  stored_value =
      let a = lengths_kept empty_state two l d in
      rw (fourth_values, filled_out (tabled_value table two) 0 0 4 third.values nan 4 (inr (omega arith)), third_values, second_values)
      (filled_in (tabled_value table four) 4 4 2 first.values nan 0 (omega arith) (omega (arith, a.0, el)))

  pub stored_derivative : get_or fourth.derivatives 4 nan ≡ tabled_derivative table four 4
  stored_derivative =
      let a = lengths_kept empty_state two l d in
      rw (fourth_derivatives, filled_out (tabled_derivative table two) 0 0 3 third.derivatives nan 4 (inr (omega arith)), third_derivatives, second_derivatives)
      (filled_in (tabled_derivative table four) 3 3 2 first.derivatives nan 1 (omega arith) (omega (arith, a.1, ed)))

-- what the table call has there
known_four : Known four
unfolding is_nan of_bits decimal fits
known_four = record { order = record { number = refl; small = large (decimal 4 0) _ order_four; fit = tt }; argument = refl; fit = tt }

value_four : tabled_value table four 4 ≡ decimal 3 0
value_four = table_value four known_four table long 4 (rw (top (decimal 4 0) _ order_four) (omega arith)) ∙ four_values.0

derivative_four : tabled_derivative table four 4 ≡ f0
derivative_four = table_derivative four known_four table long 4 (rw (top (decimal 4 0) _ order_four) (omega arith)) ∙ four_values.1

abbrev f4 : Float
f4 = bits 0x4010_0000_0000_0000

f4_is : f4 ≡ decimal 4 0
unfolding decimal of_bits
f4_is = refl

-- the code's four calls: s is the state that it begins with, r1 to r4 are its replies, and l1, d1, .. the tables that each call leaves
module _ (l d : List Float) (el : length l ≡ 6) (ed : length d ≡ 5) (s : Ladder) (r1 r2 r3 r4 : Reply) (l1 d1 l2 d2 l3 d3 l4 d4 : List Float) (e0 : s ≡ empty_state)
    (e1 : outcome (given_by r1) l1 d1 ≡ requested s (asks D f2 f0) l d) (e2 : outcome (given_by r2) l2 d2 ≡ requested r1.state (asks D f4 f0) l1 d1)
    (e3 : outcome (given_by r3) l3 d3 ≡ requested r2.state (asks D f4 f0) l2 d2) (e4 : outcome (given_by r4) l4 d4 ≡ requested r3.state (asks D f2 f0) l3 d3) where
  made_first : outcome (given_by r1) l1 d1 ≡ first l d el ed
  made_first = e1 ∙ rw (e0, f2_is)

  made_second : outcome (given_by r2) l2 d2 ≡ second l d el ed
  unfolding given_by
  made_second = e2 ∙ rw f4_is (ap (λ (o : Outcome). requested o.given.state four o.values o.derivatives) made_first)

  made_third : outcome (given_by r3) l3 d3 ≡ third l d el ed
  unfolding given_by
  made_third = e3 ∙ rw f4_is (ap (λ (o : Outcome). requested o.given.state four o.values o.derivatives) made_second)

  made_fourth : outcome (given_by r4) l4 d4 ≡ fourth l d el ed
  unfolding given_by
  made_fourth = e4 ∙ rw f2_is (ap (λ (o : Outcome). requested o.given.state two o.values o.derivatives) made_third)

  told : map shown (outcome (given_by r1) l1 d1 ∷ outcome (given_by r2) l2 d2 ∷ outcome (given_by r3) l3 d3 ∷ outcome (given_by r4) l4 d4 ∷ [])
      ≡ (some 4, some (neg f1, f0)) ∷ (some 2, some (decimal 3 0, f0)) ∷ (some 0, some (decimal 3 0, f0)) ∷ (some 4, some (neg f1, f0)) ∷ []
  unfolding on_one_ladder
  told = rw (made_first, made_second, made_third, made_fourth) (shows l d el ed)

  pub counts : map written_of (r1.answer ∷ r2.answer ∷ r3.answer ∷ r4.answer ∷ []) ≡ some 4 ∷ some 2 ∷ some 0 ∷ some 4 ∷ []
  unfolding given_by shown
  counts = ap (map (λ (p : Option ℕ × Option (Float × Float)). p.0)) told

  pub pairs : map pair_in (r1.answer ∷ r2.answer ∷ r3.answer ∷ r4.answer ∷ [])
      ≡ some (neg f1, f0) ∷ some (decimal 3 0, f0) ∷ some (decimal 3 0, f0) ∷ some (neg f1, f0) ∷ []
  unfolding given_by shown
  pairs = ap (map (λ (p : Option ℕ × Option (Float × Float)). p.1)) told

  pub stored : ◌≡◌ {A = Float × Float} (get_or l4 4 nan, get_or d4 4 nan) (decimal 3 0, f0)
  stored =
      rw (ap (λ (o : Outcome). o.values) made_fourth, ap (λ (o : Outcome). o.derivatives) made_fourth, stored_value l d el ed, stored_derivative l d el ed, value_four, derivative_four)
