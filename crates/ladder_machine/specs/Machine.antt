-- 01's ladder machine ("The ladder"): which requests are refused, which of the three cases an accepted one is, how many
-- rungs it counts, and what the machine holds then. It is fed the inputs of calls and the lengths of their two tables.
-- Its record is function, side, the bits of x and f, and n: no value, table slot or state of the program enters it.
use Rattle.std.specs.Prelude.{List, [], ◌∷◌, ℕ, ◌+◌, ◌-◌, Bool, true, false, ◌&&◌, ◌||◌, cond, eqb, leb, ltb, Float}
use Rattle.std.proofs.Math.Option.{Option, some, none}
use Rattle.std.specs.Bool.{beq}
use Rattle.std.specs.Float.{binary64}
use Rattle.std.specs.Float.Ieee.{to_bits}
use Rattle.floats.specs.Operations.{◌⊕◌, bits, whole}
use Rattle.order.specs.Order.{below, fraction_of, top_rung}
use Rattle.floats.specs.declared.Function.{Function}
use Rattle.floats.specs.declared.Function.TheVariants.{D, «V»}
use Rattle.branches.specs.Branches.{runs_forward}
use Rattle.ladder_machine.specs.declared.Request.{Request}
use Rattle.table_refusals.specs.Refusals.{refusal_by}
pub mod Open

-- ---- what it is fed

-- a request, the record of src/lib.rt: a function, an order v and an argument x
abbrev pub asks : Function → Float → Float → Request
asks fn v x = record { function = fn; v = v; x = x }

-- the inputs of a call, a case for each kind of call
pub data Inputs : Type 0 where
  request : Request → Inputs

-- what a call feeds it: its inputs, and the lengths of its value table and its derivative table
pub record Feed : Type 0 where
  pub inputs : Inputs
  pub values : ℕ
  pub derivatives : ℕ

abbrev pub asked : Request → ℕ → ℕ → Feed
asked q values derivatives = record { inputs = request q; values = values; derivatives = derivatives }

-- ---- the refusals

-- below n + 1 values or n derivatives
pub too_short : ℕ → ℕ → ℕ → Bool
too_short n values derivatives = ltb values (n + 1) || ltb derivatives n

-- by rising number; 0 where there is none
pub refusal : Request → ℕ → ℕ → ℕ
refusal q values derivatives = refusal_by q.v q.x (too_short (top_rung q.v) values derivatives)

-- ---- its record

-- empty, or function, side (v < 0), the bits of x and f, and n
pub data Machine : Type 0 where
  empty : Machine
  holds : Function → Bool → ℕ → ℕ → ℕ → Machine

pub bits_of : Float → ℕ
bits_of x = to_bits binary64 x

-- the record of a request, with the n that is held
pub holding : Request → ℕ → Machine
holding q n = holds q.function (below q.v) (bits_of q.x) (bits_of (fraction_of q.v)) n

-- ---- what it says to a request

-- its refusal's number; or the case with the new n, and for a climb the held n before it
pub data Verdict : Type 0 where
  refuses : ℕ → Verdict
  repeats : ℕ → Verdict
  climbs : ℕ → ℕ → Verdict
  starts_over : ℕ → Verdict

-- the written count, which a refusal does not have
pub written : Verdict → Option ℕ
written (refuses k) = none
written (repeats n) = some 0
written (climbs m n) = some (n - m)
written (starts_over n) = some (n + 1)

-- the refusal's number, 0 where there is none
unfoldable pub refused_by : Verdict → ℕ
refused_by (refuses number) = number
refused_by (repeats n) = 0
refused_by (climbs m n) = 0
refused_by (starts_over n) = 0

-- what a verdict does to the rungs held: they stay as found, they go on from m to n, or they start over at n. A repeat
-- goes on from n to n.
pub data Effect : Type 0 where
  stays : Effect
  goes_on : ℕ → ℕ → Effect
  starts_at : ℕ → Effect

unfoldable pub effect : Verdict → Effect
effect (refuses number) = stays
effect (repeats n) = goes_on n n
effect (climbs m n) = goes_on m n
effect (starts_over n) = starts_at n

pub same_function : Function → Function → Bool
same_function D D = true
same_function D «V» = false
same_function «V» D = false
same_function «V» «V» = true

-- the same function, side, x and f
pub same_rungs : Function → Bool → ℕ → ℕ → Function → Bool → ℕ → ℕ → Bool
same_rungs fn s x f fn' s' x' f' = same_function fn fn' && beq s s' && eqb x x' && eqb f f'

-- a higher n, the held n 2 or more, and the held branch forward. The held u is n + f, rounded.
pub may_climb : Function → Bool → ℕ → ℕ → ℕ → ℕ → Bool
may_climb fn s x f m n = ltb m n && leb 2 m && runs_forward fn s (bits x) (whole m ⊕ bits f)

-- the case of an accepted request, by its function, side, bits of x and f, and n
pub case_by : Machine → Function → Bool → ℕ → ℕ → ℕ → Verdict
case_by empty fn' s' x' f' n = starts_over n
case_by (holds fn s x f m) fn' s' x' f' n =
    cond (same_rungs fn s x f fn' s' x' f')
    (cond (eqb m n) (repeats n) (cond (may_climb fn s x f m n) (climbs m n) (starts_over n)))
    (starts_over n)

pub case_of : Machine → Request → Verdict
case_of m q = case_by m q.function (below q.v) (bits_of q.x) (bits_of (fraction_of q.v)) (top_rung q.v)

-- by the inputs of the call
pub verdict_on : Machine → Inputs → ℕ → ℕ → Verdict
verdict_on m (request q) values derivatives =
    cond (eqb (refusal q values derivatives) 0) (case_of m q) (refuses (refusal q values derivatives))

pub verdict : Machine → Feed → Verdict
verdict m d = verdict_on m d.inputs d.values d.derivatives

-- ---- what it holds then, by the effect of what it says: a refused call changes nothing in it; any other is held

pub held_then : Machine → Effect → Inputs → Machine
held_then m stays i = m
held_then m (goes_on k n) (request q) = holding q n
held_then m (starts_at n) (request q) = holding q n

pub next : Machine → Feed → Machine
next m d = held_then m (effect (verdict m d)) d.inputs

-- ---- on a list: what it says to each, and what it holds after the last

pub verdicts : Machine → List Feed → List Verdict
verdicts m [] = []
verdicts m (d ∷ ds) = verdict m d ∷ verdicts (next m d) ds

pub after : Machine → List Feed → Machine
after m [] = m
after m (d ∷ ds) = after (next m d) ds
