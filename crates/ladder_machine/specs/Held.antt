-- What a ladder holds beside its two values: when it counts as empty, and the machine begun with it (01, "The ladder").
use Rattle.std.specs.Prelude.{Bool, ◌||◌, cond, eqb, ltb, Result, Ok, Err}
use Rattle.std.specs.Float.Ieee.{is_nan, le}
use Rattle.floats.specs.Operations.{◌⊕◌, whole, f1}
use Rattle.signs.specs.Signs.{absolute}
use Rattle.branches.specs.Branches.{runs_forward}
use Rattle.ladder_machine.specs.declared.Held.{Held}
use Rattle.answer.specs.Answer.{number}
use Rattle.answer.specs.declared.Refusal.{Refusal}
use Rattle.ladder_machine.specs.declared.Case.{Case}
use Rattle.ladder_machine.specs.declared.Case.TheVariants.{Repeat, Climb, StartOver}
use Rattle.ladder_machine.specs.Machine.{Machine, empty, holds, bits_of, Verdict, refuses, repeats, climbs}
use Rattle.ladder_machine.specs.Machine.{starts_over}
pub mod Open

-- n is 0 or above 1000, x or f is NaN, or the size of f is 1 or more
pub counts_empty : Held → Bool
counts_empty h =
    let r = h.sequence in
    eqb h.n 0 || ltb 1000 h.n || is_nan r.x || is_nan r.f || le f1 (absolute r.f)

-- the held branch runs forward: the held u is n + f, rounded
pub held_forward : Held → Bool
held_forward h = let r = h.sequence in runs_forward r.function r.below r.x (whole h.n ⊕ r.f)

-- the machine begun with a state's fields, its two values left out
pub machine_of : Held → Machine
machine_of h =
    let r = h.sequence in
    cond (counts_empty h) empty (holds r.function r.below (bits_of r.x) (bits_of r.f) h.n)

-- a judgement in the machine's words
unfoldable pub verdict_of : Result Case Refusal → Verdict
verdict_of (Ok (Repeat n)) = repeats n
verdict_of (Ok (Climb m n)) = climbs m n
verdict_of (Ok (StartOver n)) = starts_over n
verdict_of (Err refusal) = refuses (number refusal)
