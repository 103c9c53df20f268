-- DEMAND 3 IN C: the list of the ladder's turns, in C; and any state.
use Rattle.std.proofs.Common.{◌≡◌, ap, ◌∙◌, List, Float}
use Rattle.ladder_machine.specs.declared.Request.{Request}
use Rattle.ladder_machine.specs.Machine.{empty}
use Rattle.ladder_machine.specs.Held.{machine_of}
use Rattle.ladder_states.specs.declared.Ladder.{Ladder}
use Rattle.ladder_states.specs.States.{held_in}
use Rattle.ladder_lists.specs.Demand3.{Call, Numbers, Long, ListRight}
use Rattle.ladder_lists.proofs.Lists.{demand3}
use Rattle.gozhnerim_structs.specs.declared.GozhnerimLadder.{GozhnerimLadder}
use Rattle.gozhnerim_structs.specs.Ladders.{ladder_in}
use Rattle.gozhnerim_lists.specs.Lists.{calls_in_c, last_in_c, begun_with, ListRightInC, Demand3InC}
use Rattle.gozhnerim_lists.proofs.Lists.{all_in_c, begun_is, begun_empty, all_due, turns_in_c, last_in_c_law, lent_in_c_law}
use Rattle.gozhnerim_lists.proofs.AnyState.{state_right_in_c}

module _ (table : Request → List Float) (long : Long table) (held : GozhnerimLadder) (nothing : begun_with held ≡ empty) (cs : List Call) (numbers : Numbers cs) where
  right : ListRight table (ladder_in held) cs
  right = demand3.lists table long (ladder_in held) (begun_empty held nothing) cs numbers

  list_right_in_c : ListRightInC table held cs
  list_right_in_c = record {
    calls = turns_in_c held cs ∙ ap (all_in_c held) right.calls ∙ all_due table long cs numbers held (ladder_in held) empty;
    machine =
        begun_is (last_in_c held (calls_in_c held cs))
        ∙ ap (λ (s : Ladder). machine_of (held_in s)) (last_in_c_law held cs)
        ∙ right.machine;
    rungs = rw (lent_in_c_law held cs) right.rungs;
  }

pub demand3_in_c : Demand3InC
demand3_in_c = record { lists = list_right_in_c; any_state = state_right_in_c }
