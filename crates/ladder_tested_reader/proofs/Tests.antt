-- The number by the outcomes of the tests, and what is lent by the number.
use Rattle.std.proofs.Common.{◌≡◌, refl, sym, ◌∙◌, List, ℕ, ◌+◌, ◌≤◌, ◌<◌, Bool, true, false, not, ◌||◌, ◌&&◌, cond, eq-eqb, ne_eqb, length, take, length-take-le, arith, Float, Ok, Err}
use Rattle.std.proofs.Math.Option.{some, none}
use Rattle.std.specs.Borrow.{Bor}
use Rattle.std.proofs.lemmas.Result.{err_from_is_err_and}
use Rattle.answer.specs.declared.Refusal.{Refusal}
use Rattle.answer.proofs.Laws.{numbered, refusal_numbers}
use Rattle.order.specs.declared.Sequence.{Sequence}
use Rattle.value_column.specs.OverSlots.{derivative_over}
use Rattle.ladder_machine.specs.Machine.{too_short}
use Rattle.ladder_machine.specs.declared.Held.{Held}
use Rattle.ladder_machine.specs.Held.{counts_empty, held_forward}
use Rattle.ladder_machine.proofs.Laws.{not_empty, room}
use Rattle.ladder_reader.specs.declared.Column.{Column}
use Rattle.ladder_tested_reader.specs.Tested.{value_over, all_alike, holds_rungs, tested, column_held, tested_part, part_of}
use Rattle.ladder_tested_reader.specs.Tested.Open.{tested_is}

-- a state that does not count as empty holds rung 1
pub some_rung : (h : Held) → counts_empty h ≡ false → 1 ≤ h.n
some_rung h e = (not_empty h e).0

-- and none above 1000
pub few_rungs : (h : Held) → counts_empty h ≡ false → h.n ≤ 1000
few_rungs h e = (not_empty h e).1

-- both tables
pub both_tables : (r : Sequence) (n : ℕ) (values derivatives : List Float)
    → holds_rungs r n values derivatives ≡ (all_alike (value_over r values) values (n + 1) && all_alike (derivative_over r values) derivatives n)
unfolding holds_rungs
both_tables r n values derivatives = refl

pub ruleset tests = (tested_is, refusal_numbers, some_rung, few_rungs, room, both_tables)

module _ (h : Held) (values derivatives : List Float) where
  -- where the column is lent both tables are long enough
  pub long_enough : tested h values derivatives ≡ 0 → (h.n < length values) × (h.n ≤ length derivatives)
  long_enough e =
      room h.n (length values) (length derivatives)
      (go (counts_empty h || not (held_forward h)) (too_short h.n (length values) (length derivatives)) (holds_rungs h.sequence h.n values derivatives)
      (sym (tested_is h values derivatives) ∙ e))
    where
      go : (a b c : Bool) → ◌≡◌ {A = ℕ} (cond a 6 (cond b 3 (cond c 0 7))) 0 → b ≡ false
      go true b c e = absurd (omega arith)
      go false true c e = absurd (omega arith)
      go false false c e = refl

  pub lent_values : tested h values derivatives ≡ 0 → h.n + 1 ≡ length (take (h.n + 1) values)
  lent_values e = let r = long_enough e in sym (length-take-le (h.n + 1) values (omega (arith, r.0)))

  pub lent_derivatives : tested h values derivatives ≡ 0 → h.n ≡ length (take h.n derivatives)
  lent_derivatives e = let r = long_enough e in sym (length-take-le h.n derivatives r.1)

-- the number by the three tests
pub number_is : (h : Held) (values derivatives : List Float)
    → tested h values derivatives
    ≡ cond (counts_empty h || not (held_forward h)) 6
    (cond (too_short h.n (length values) (length derivatives)) 3
    (cond (holds_rungs h.sequence h.n values derivatives) 0 7))
number_is h values derivatives = tested_is h values derivatives

-- what is lent by the number
pub lent : (which : Column) (h : Held) (values derivatives : List Float) → tested h values derivatives ≡ 0
    → tested_part which h values derivatives ≡ some (column_held which h.n values derivatives)
unfolding tested_part
lent which h values derivatives e = rw (eq-eqb (tested h values derivatives) 0 e)

pub not_lent : (which : Column) (h : Held) (values derivatives : List Float) → (tested h values derivatives ≡ 0 → ⊥)
    → tested_part which h values derivatives ≡ none
unfolding tested_part
not_lent which h values derivatives e = rw (ne_eqb (tested h values derivatives) 0 e)

-- a result's part by its cases
pub part_given : (part : Bor (List Float)) → part_of (Ok part) ≡ some part.now
unfolding part_of
part_given part = refl

pub no_part : (refusal : Refusal) → part_of (Err refusal) ≡ none
unfolding part_of
no_part refusal = refl

pub ruleset column_laws = (numbered, refusal_numbers, err_from_is_err_and, lent, not_lent, lent_values, lent_derivatives, part_given, no_part)
