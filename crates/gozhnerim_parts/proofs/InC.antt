-- #102 in C: the state in C is, as a ladder, the ladder's; the number is the reader's, and the length that of its column.
use Rattle.std.proofs.Common.{◌≡◌, ◌≢◌, refl, sym, ◌∙◌, List, ◌⊎◌, inl, inr, ℕ, ◌+◌, ◌≤◌, ◌<◌, Bool, true, false, true≢false, cond, eqb, length, length-take-le, Float}
use Rattle.std.proofs.lemmas.Bool.{cases_lt}
use Rattle.std.proofs.Math.Option.{Option, some, none}
use Rattle.floats.specs.declared.Function.{Function}
use Rattle.ladder_machine.specs.declared.Held.{Held}
use Rattle.ladder_machine.specs.declared.Request.{Request}
use Rattle.ladder_reader.specs.declared.Column.{Column}
use Rattle.ladder_reader.specs.declared.Column.TheVariants.{Values, Derivatives}
use Rattle.ladder_reader.specs.Numbers.{column_of}
use Rattle.ladder_tested_reader.specs.Tested.{tested, tested_part}
use Rattle.ladder_tested_lists.specs.TestedLists.{Empty, TooShort, named, F64s, Reads}
use Rattle.ladder_tested_lists.proofs.ByTests.{reads}
use Rattle.ladder_tested_lists.proofs.Lists.{tested_reader_law}
use Rattle.ladder_machine.specs.Held.{counts_empty}
use Rattle.ladder_machine.proofs.Laws.{reason}
use Rattle.ladder_states.specs.States.{held_in, empty_state}
use Rattle.ladder_states.proofs.Laws.{nothing_held}
use Rattle.ladder_lists.specs.Demand3.{Call, Numbers, Long}
use Rattle.gozhnerim_structs.specs.declared.GozhnerimLadder.{GozhnerimLadder}
use Rattle.gozhnerim_structs.specs.Ladders.{function_of, ladder_by, ladder_in}
use Rattle.gozhnerim_lists.specs.Lists.{function_in}
use Rattle.gozhnerim_lists.proofs.Lists.{last_in_c_law}
use Rattle.gozhnerim_parts.specs.declared.GozhnerimPart.{GozhnerimPart}
use Rattle.gozhnerim_parts.specs.Parts.{part_named, slots_of, tested_in_c}
use Rattle.gozhnerim_parts.specs.TestedInC.{slots_named, ReadsInC, ReadsAfterInC, held_as, EmptyInC, NotForwardInC, CarriedInC, ReadsAnyInC, TestedReaderInC}

-- ---- the number and the length, from what the reader gives for each column

module _ (A right : Type 0) (n : ℕ) (h : Held) (values derivatives : List Float)
    (given : (which : Column)
    → Reads A (TooShort n values derivatives) right (named which n values derivatives) (tested h values derivatives) (tested_part which h values derivatives)) where
  abbrev part : ℕ → GozhnerimPart
  part which = record { refusal = tested h values derivatives; length = slots_of (part_named (column_of which) h values derivatives) }

  long_enough : tested h values derivatives ≡ 0 → (n + 1 ≤ length values) × (n ≤ length derivatives)
  long_enough e =
      let fits = ((given Values).lends.0 e).1 in
      (le_from_not_lt (λ s. fits (inl s)), le_from_not_lt (λ s. fits (inr s)))
    where
      le_from_not_lt : {a b : ℕ} → (a < b → ⊥) → b ≤ a
      le_from_not_lt {a} {b} f = go (cases_lt a b)
        where
          go : (a < b) ⊎ (b ≤ a) → b ≤ a
          go (inl s) = absurd (f s)
          go (inr s) = s

  slots : (column : Column) → ℕ
  slots Values = n + 1
  slots Derivatives = n

  lent_slots : (column : Column) → tested h values derivatives ≡ 0 → slots_of (tested_part column h values derivatives) ≡ slots column
  unfolding slots_of slots
  lent_slots Values e = rw ((given Values).part_lent e) (length-take-le (n + 1) values (long_enough e).0)
  lent_slots Derivatives e = rw ((given Derivatives).part_lent e) (length-take-le n derivatives (long_enough e).1)

  none_lent : (column : Column) → tested h values derivatives ≢ 0 → slots_of (tested_part column h values derivatives) ≡ 0
  unfolding slots_of
  none_lent column e = rw ((given column).no_part e)

  pub reads_in_c : (which : ℕ) → ReadsInC A (TooShort n values derivatives) right which n (part which)
  unfolding slots_named part_named slots_of slots
  reads_in_c which = record {
    six = (given Values).six;
    three = (given Values).three;
    lends = (given Values).lends;
    seven = (given Values).seven;
    no_other = (given Values).no_other;
    length_lent = λ e. lent (eqb which 1) (eqb which 2) e;
    no_length = λ e. not_lent (eqb which 1) (eqb which 2) e;
  }
    where
      lent : (a b : Bool) → tested h values derivatives ≡ 0
          → slots_of (part_named (cond a (some Values) (cond b (some Derivatives) none)) h values derivatives) ≡ cond a (n + 1) (cond b n 0)
      lent true b e = lent_slots Values e
      lent false true e = lent_slots Derivatives e
      lent false false e = refl

      not_lent : (a b : Bool) → tested h values derivatives ≢ 0
          → slots_of (part_named (cond a (some Values) (cond b (some Derivatives) none)) h values derivatives) ≡ 0
      not_lent true b e = none_lent Values e
      not_lent false true e = none_lent Derivatives e
      not_lent false false e = refl

-- ---- after a list

-- a state in C that counts as empty is a ladder that does
empty_in_c : (held : GozhnerimLadder) → EmptyInC (function_in held.function) held → Empty (held_in (ladder_in held))
unfolding function_in function_of ladder_in ladder_by
empty_in_c held = go (function_in held.function)
  where
    go : (o : Option Function) → EmptyInC o held → Empty (held_in (ladder_by o held))
    go none e = reason (held_in empty_state) nothing_held
    go (some function) e = e

lists : (table : Request → List Float) → Long table → (held : GozhnerimLadder) → EmptyInC (function_in held.function) held → (cs : List Call) → Numbers cs
    → (values derivatives : List Float) → F64s values → F64s derivatives → (which : ℕ) → ReadsAfterInC table held cs values derivatives which
unfolding tested_in_c
lists table long held e cs numbers values derivatives a b which =
    rw (last_in_c_law held cs)
    (reads_in_c _ _ _ _ values derivatives
    (tested_reader_law.lists table long (ladder_in held) (empty_in_c held e) cs numbers values derivatives a b)
    which)

-- ---- any state

any_state : (held : GozhnerimLadder) (values derivatives : List Float) → F64s values → F64s derivatives → (which : ℕ) → ReadsAnyInC held values derivatives which
unfolding tested_in_c function_in function_of ladder_in ladder_by slots_of
any_state held values derivatives a b which = go (function_in held.function)
  where
    go : (o : Option Function)
        → let h = held_in (ladder_by o held) in
        ReadsInC (NotForwardInC o held) (TooShort held.n values derivatives) (CarriedInC o held values derivatives) which held.n
        (record { refusal = tested h values derivatives; length = slots_of (part_named (column_of which) h values derivatives) })
    go none =
        let h = held_in empty_state in
        let unread : (e : counts_empty h ≡ false) → ⊥ = λ e. true≢false (sym nothing_held ∙ e) in
        reads_in_c Unit Unit held.n h values derivatives
        (reads h Unit held.n ((λ _. tt), (λ _. rw nothing_held)) (λ e. absurd (unread e)) values derivatives Unit (λ e g s. absurd (unread e)))
        which
    go (some function) = reads_in_c _ _ _ _ values derivatives (tested_reader_law.any_state (held_as function held) values derivatives a b) which

pub tested_reader_in_c_law : TestedReaderInC
tested_reader_in_c_law = record { lists = lists; any_state = any_state }
