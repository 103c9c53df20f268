-- The ladder (01, "The ladder"): what a request answers, hands back and leaves of both tables, for every state, request
-- and table content.
use Rattle.std.specs.Prelude.{List, ℕ, ◌+◌, ◌-◌, length, Float, Result, Ok, Err}
use Rattle.std.proofs.Math.Option.{Option, some, none}
use Rattle.derivatives.specs.Derivatives.{derivative}
use Rattle.slots.specs.Slots.{filled}
use Rattle.answer.specs.Answer.{refusal_of}
use Rattle.answer.specs.declared.Refusal.{Refusal}
use Rattle.tables.specs.Tables.{sequence_of, value_of, derivative_of}
use Rattle.ladder_machine.specs.declared.Request.{Request}
use Rattle.ladder_machine.specs.Machine.{asked, Verdict, refused_by, written, Effect, stays, goes_on, starts_at}
use Rattle.ladder_machine.specs.Machine.{effect, verdict}
use Rattle.ladder_machine.specs.Held.{machine_of}
use Rattle.ladder_climb.specs.Climb.{carried_value, carried_derivative}
use Rattle.ladder_states.specs.declared.Ladder.{Ladder}
use Rattle.ladder_states.specs.States.{state_of, sequence_in, held_in}
use Rattle.ladder.specs.declared.Answered.{Answered}
use Rattle.ladder.specs.declared.Reply.{Reply}
pub mod Open

-- ---- the state

-- the state that holds rungs 0 to n of a request, with values n − 1 and n of the table call
pub state_for : Request → ℕ → Ladder
state_for q n =
    let value = value_of q.function q.v q.x in
    state_of (sequence_of q.function q.v q.x) n (value (n - 1)) (value n)

-- ---- a climb

-- value k and derivative k, carried on from the state's two values
abbrev pub value_from : Ladder → ℕ → Float
value_from s = carried_value (sequence_in s) s.held.n s.values.low s.values.high

abbrev pub derivative_from : Ladder → ℕ → Float
derivative_from s = carried_derivative (sequence_in s) s.held.n s.values.low s.values.high

-- the state at a higher n
pub climbed_to : Ladder → ℕ → Ladder
climbed_to s n = state_of (sequence_in s) n (value_from s (n - 1)) (value_from s n)

-- ---- what a request answers, hands back and leaves

-- value n − 1, and the derivative formula over both values
pub pair_from : Ladder → Float × Float
pair_from s =
    let r = sequence_in s in
    let v = s.values in
    (v.low, derivative r.function r.below r.x r.f (s.held.n - 1) v.low v.high)

-- the state handed back, the refusal's number (0 where there is none), the pair, and the written count
pub record Given : Type 0 where
  pub state : Ladder
  pub refusal : ℕ
  pub pair : Option (Float × Float)
  pub written : Option ℕ

-- a reply in these words
unfoldable pub written_of : Result Answered Refusal → Option ℕ
written_of (Ok a) = some a.written
written_of (Err refusal) = none

unfoldable pub pair_in : Result Answered Refusal → Option (Float × Float)
pair_in (Ok a) = some (a.pair.value, a.pair.derivative)
pair_in (Err refusal) = none

unfoldable pub given_by : Reply → Given
given_by r = record {
  state = r.state;
  refusal = refusal_of r.answer;
  pair = pair_in r.answer;
  written = written_of r.answer;
}

-- a refusal gives its number alone, and any other request answers from the state that it hands back
unfoldable pub pair_then : Effect → Ladder → Option (Float × Float)
pair_then stays s = none
pair_then (goes_on m n) s = some (pair_from s)
pair_then (starts_at n) s = some (pair_from s)

-- by what the machine says, with the state handed back
unfoldable pub given_on : Verdict → Ladder → Given
given_on w s = record { state = s; refusal = refused_by w; pair = pair_then (effect w) s; written = written w }

-- an accepted request, with its written count
unfoldable pub answered : ℕ → Ladder → Given
answered count s = record { state = s; refusal = 0; pair = some (pair_from s); written = some count }

-- what is given, and both tables as they are left
pub record Outcome : Type 0 where
  pub given : Given
  pub values : List Float
  pub derivatives : List Float

abbrev pub outcome : Given → List Float → List Float → Outcome
outcome given values derivatives = record { given = given; values = values; derivatives = derivatives }

-- the state handed back, and the two tables: what goes on from m to n writes values m + 1 to n and derivatives m to n −
-- 1, and reads no table; what starts over at n writes values 0 to n and derivatives 0 to n − 1
pub state_then : Effect → Ladder → Request → Ladder
state_then stays s q = s
state_then (goes_on m n) s q = climbed_to s n
state_then (starts_at n) s q = state_for q n

pub values_then : Effect → Ladder → Request → List Float → List Float
values_then stays s q l = l
values_then (goes_on m n) s q l = filled (value_from s) (m + 1) (m + 1) (n - m) l
values_then (starts_at n) s q l = filled (value_of q.function q.v q.x) 0 0 (n + 1) l

pub derivatives_then : Effect → Ladder → Request → List Float → List Float
derivatives_then stays s q l = l
derivatives_then (goes_on m n) s q l = filled (derivative_from s) m m (n - m) l
derivatives_then (starts_at n) s q l = filled (derivative_of q.function q.v q.x) 0 0 n l

-- by what the machine says
pub outcome_by : Verdict → Ladder → Request → List Float → List Float → Outcome
outcome_by w s q values derivatives =
    let e = effect w in
    outcome (given_on w (state_then e s q)) (values_then e s q values) (derivatives_then e s q derivatives)

-- the machine begun with the state's fields says which it is
pub requested : Ladder → Request → List Float → List Float → Outcome
requested s q values derivatives =
    outcome_by (verdict (machine_of (held_in s)) (asked q (length values) (length derivatives))) s q values derivatives
