-- What is lent in C, by the outcomes of the test.
use Rattle.std.proofs.Common.{◌≡◌, refl, sym, ◌∙◌, true, List, inl, inr, ℕ, length, Ok, Err, arith, Float}
use Rattle.std.proofs.Math.Option.{Option, some, none}
use Rattle.std.proofs.lemmas.Result.{err_from_is_err_and}
use Rattle.answer.specs.declared.Refusal.{Refusal}
use Rattle.answer.proofs.Laws.{numbered, refusal_numbers}
use Rattle.ladder_reader.specs.declared.Column.{Column}
use Rattle.ladder_machine.specs.declared.Held.{Held}
use Rattle.ladder_machine.specs.Held.{counts_empty}
use Rattle.ladder_states.specs.declared.Ladder.{Ladder}
use Rattle.ladder_tested_reader.specs.Tested.{tested}
use Rattle.ladder_tested_reader.proofs.Tests.{number_is, not_lent, part_given, no_part}
use Rattle.gozhnerim_structs.specs.declared.GozhnerimLadder.{GozhnerimLadder}
use Rattle.gozhnerim_structs.specs.Ladders.{ladder_in}
use Rattle.gozhnerim_lists.proofs.Counters.{taken_in, SameOrEmpty, comes_in}
use Rattle.gozhnerim_parts.specs.Parts.{slots_in, slots_of, part_named}

pub counted : (slots : ℕ) → slots_in (Ok slots) ≡ slots
unfolding slots_in
counted slots = refl

pub none_counted : (refusal : Refusal) → slots_in (Err refusal) ≡ 0
unfolding slots_in
none_counted refusal = refl

pub part_slots : (part : List Float) → slots_of (some part) ≡ length part
unfolding slots_of
part_slots part = refl

pub no_slots : slots_of none ≡ 0
unfolding slots_of
no_slots = refl

-- ---- what comes in is the state, or both count as empty: the number and what is lent are the same

tested_empty : (h : Held) (l d : List Float) → counts_empty h ≡ true → tested h l d ≡ 6
tested_empty h l d e = rw (number_is h l d, e)

none_lent : (o : Option Column) (h : Held) (l d : List Float) → counts_empty h ≡ true → part_named o h l d ≡ none
unfolding part_named
none_lent (some which) h l d e = not_lent which h l d (λ z. omega (arith, tested_empty h l d e, z))
none_lent none h l d e = refl

module _ (l d : List Float) where
  same_number : (s' s : Ladder) → SameOrEmpty s' s → tested s'.held l d ≡ tested s.held l d
  same_number s' s (inl e) = rw e
  same_number s' s (inr e) = tested_empty s'.held l d e.0 ∙ sym (tested_empty s.held l d e.1)

  same_part : (o : Option Column) (s' s : Ladder) → SameOrEmpty s' s → part_named o s'.held l d ≡ part_named o s.held l d
  same_part o s' s (inl e) = rw e
  same_part o s' s (inr e) = none_lent o s'.held l d e.0 ∙ sym (none_lent o s.held l d e.1)

  module _ (held : GozhnerimLadder) where
    pub tested_as_it_came : tested (taken_in (ladder_in held)).held l d ≡ tested (ladder_in held).held l d
    tested_as_it_came = same_number _ _ (comes_in (ladder_in held))

    pub lent_as_it_came : (o : Option Column) → part_named o (taken_in (ladder_in held)).held l d ≡ part_named o (ladder_in held).held l d
    lent_as_it_came o = same_part o _ _ (comes_in (ladder_in held))

pub ruleset part_laws = (refusal_numbers, counted, none_counted, tested_as_it_came, lent_as_it_came)

pub ruleset lent_laws = (numbered, part_laws, err_from_is_err_and, not_lent, part_given, no_part, part_slots, no_slots)
