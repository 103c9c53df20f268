-- DEMAND 3 (the mission's third; 01, "The ladder"), as one statement: `Demand3`, at the end. Of the ladder it cites
-- `requested`, which the contract of `ladder::request` equates with its reply and both tables, and `empty_state`, which
-- that of `ladder_states::Ladder::empty` equates with its result. All else is in the documents' words: 01's machine
-- (crates/ladder_machine/specs), the table call's `answer` and `table_after`, a step of the recurrence, the derivative
-- formula, slots.
use Rattle.std.specs.Prelude.{◌≡◌, List, [], ◌∷◌, map, ◌⊎◌, ℕ, ◌+◌, ◌-◌, ◌*◌, ◌≤◌, ◌<◌, true, false, T, length, take, drop, Float}
use Rattle.std.proofs.Math.Option.{Option, some, none}
use Rattle.std.specs.Float.{binary64}
use Rattle.std.specs.Float.Ieee.{fits, is_nan}
use Rattle.order.specs.Order.{too_large, below, fraction_of, top_rung, num}
use Rattle.recurrence.specs.Recurrence.{step}
use Rattle.derivatives.specs.Derivatives.{derivative}
use Rattle.slots.specs.Slots.{filled, slot}
use Rattle.tables.specs.Tables.{table_after, answer}
use Rattle.ladder_machine.specs.declared.Held.{Held}
use Rattle.ladder_machine.specs.declared.Request.{Request}
use Rattle.ladder_machine.specs.Machine.{Inputs, request, Feed, Machine, empty, holds, Verdict, refuses}
use Rattle.ladder_machine.specs.Machine.{repeats, climbs, starts_over, refused_by, written, Effect, stays, goes_on}
use Rattle.ladder_machine.specs.Machine.{starts_at, effect, verdict, next, verdicts, after}
use Rattle.ladder_machine.specs.Held.{counts_empty, machine_of}
use Rattle.ladder_states.specs.declared.Ladder.{Ladder}
use Rattle.ladder_states.specs.States.{empty_state}
use Rattle.ladder.specs.Ladder.{Given, Outcome, outcome, requested}

-- ---- a list of calls, and its turns

-- a call: its inputs, and what its value table and its derivative table hold before it
pub record Call : Type 0 where
  pub inputs : Inputs
  pub values : List Float
  pub derivatives : List Float

abbrev pub ask : Request → List Float → List Float → Call
ask q values derivatives = record { inputs = request q; values = values; derivatives = derivatives }

-- what the machine is fed of it: the inputs and two lengths
abbrev pub fed : Call → Feed
fed c = record { inputs = c.inputs; values = length c.values; derivatives = length c.derivatives }

-- what the program makes of it
unfoldable pub called_by : Ladder → Inputs → List Float → List Float → Outcome
called_by s (request q) values derivatives = requested s q values derivatives

abbrev pub called : Ladder → Call → Outcome
called s c = called_by s c.inputs c.values c.derivatives

pub record Turn : Type 0 where
  pub call : Call
  pub left : Outcome

-- each call is given the state that the last one handed back, and any tables
unfoldable pub turns : Ladder → List Call → List Turn
turns s [] = []
turns s (c ∷ cs) = record { call = c; left = called s c } ∷ turns (called s c).given.state cs

abbrev pub left : Turn → Outcome
left t = t.left

-- a state, its two values left out
abbrev pub fields : Ladder → Held
fields s = s.held

-- order and argument of each request are f64s
abbrev pub Number : Inputs → Type 0
Number (request q) = T (fits binary64 q.v) × T (fits binary64 q.x)

abbrev pub Numbers : List Call → Type 0
Numbers [] = Unit
Numbers (c ∷ cs) = Number c.inputs × Numbers cs

-- what a request gives: the state handed back, the refusal's number, the pair and the written count
abbrev pub gives : Ladder → ℕ → Option (Float × Float) → Option ℕ → Given
gives s number pair count = record { state = s; refusal = number; pair = pair; written = count }

-- derivative k of a state's function, by the formula over two values
abbrev pub derived : Ladder → ℕ → Float → Float → Float
derived s k low high = let r = s.held.sequence in derivative r.function r.below r.x r.f k low high

-- ---- the table call for a request alone: a table for each request, long enough for each that 1 and 2 let pass,
-- whatever it holds

abbrev pub Long : (Request → List Float) → Type 0
Long table = (q : Request) → is_nan q.v ≡ false → too_large q.v ≡ false → 2 * num q.v ≤ length (table q)

-- that table after the call, its value k and its derivative k
unfoldable pub tabled : (Request → List Float) → Request → List Float
tabled table q = table_after q.function q.v q.x (table q)

unfoldable pub tabled_value : (Request → List Float) → Request → ℕ → Float
tabled_value table q k = slot (tabled table q) k

unfoldable pub tabled_derivative : (Request → List Float) → Request → ℕ → Float
tabled_derivative table q k = slot (tabled table q) (num q.v + k)

-- the state that holds rungs 0 to n of a request: its parts, and the table call's values n − 1 and n
unfoldable pub held_after : (Request → List Float) → Request → ℕ → Ladder
held_after table q n = record {
  held = record {
    sequence = record { function = q.function; below = below q.v; x = q.x; f = fraction_of q.v };
    n = n;
  };
  values = record { low = tabled_value table q (n - 1); high = tabled_value table q n };
}

-- ---- what is due to a call, where s is the state given and the machine has spoken. What goes on from m to n has
-- values m + 1 to n and derivatives m to n − 1 written; what starts over at n has values 0 to n and derivatives 0 to
-- n − 1.

module _ (table : Request → List Float) where
  unfoldable pub state_due : Ladder → Effect → Inputs → Ladder
  state_due s stays i = s
  state_due s (goes_on m n) (request q) = held_after table q n
  state_due s (starts_at n) (request q) = held_after table q n

  -- the table call's
  unfoldable pub pair_due : Effect → Inputs → Option (Float × Float)
  pair_due stays i = none
  pair_due (goes_on m n) (request q) = answer q.function q.v q.x (length (table q))
  pair_due (starts_at n) (request q) = answer q.function q.v q.x (length (table q))

  unfoldable pub values_due : Effect → Inputs → List Float → List Float
  values_due stays i l = l
  values_due (goes_on m n) (request q) l = filled (tabled_value table q) (m + 1) (m + 1) (n - m) l
  values_due (starts_at n) (request q) l = filled (tabled_value table q) 0 0 (n + 1) l

  unfoldable pub derivatives_due : Effect → Inputs → List Float → List Float
  derivatives_due stays i l = l
  derivatives_due (goes_on m n) (request q) l = filled (tabled_derivative table q) m m (n - m) l
  derivatives_due (starts_at n) (request q) l = filled (tabled_derivative table q) 0 0 n l

  -- what is handed back and answered, and both tables, every slot
  unfoldable pub due : Ladder → Verdict → Call → Outcome
  due s w c =
      outcome
      (gives (state_due s (effect w) c.inputs) (refused_by w) (pair_due (effect w) c.inputs) (written w))
      (values_due (effect w) c.inputs c.values)
      (derivatives_due (effect w) c.inputs c.derivatives)

  unfoldable pub due_all : Ladder → List Verdict → List Call → List Outcome
  due_all s [] cs = []
  due_all s (w ∷ ws) [] = []
  due_all s (w ∷ ws) (c ∷ cs) = due s w c ∷ due_all (due s w c).given.state ws cs

-- ---- after a list

-- the last state
unfoldable pub last_state : Ladder → List Turn → Ladder
last_state s [] = s
last_state s (t ∷ ts) = last_state t.left.given.state ts

-- a call, and both tables as it left them
pub record Lent : Type 0 where
  pub call : Call
  pub values : List Float
  pub derivatives : List Float

abbrev pub lent : Turn → Lent
lent t = record { call = t.call; values = t.left.values; derivatives = t.left.derivatives }

-- a table lent again as it was left, and not cut shorter
abbrev pub Onward : List Float → List Float → Type 0
Onward l l' = take (length l) l' ≡ l

abbrev pub Handed : List Float → List Float → Call → Type 0
Handed values derivatives c = Onward values c.values × Onward derivatives c.derivatives

-- whether each call after the last start-over got the tables as the one before left them: `so_far` says it up to a
-- call, a start-over begins anew, and `values` and `derivatives` are what the call before left
abbrev pub Anew : Type 0 → Type 0 → Effect → Type 0
Anew so_far here stays = so_far × here
Anew so_far here (goes_on m n) = so_far × here
Anew so_far here (starts_at n) = Unit

abbrev pub HandedOn : Type 0 → List Float → List Float → List Verdict → List Lent → Type 0
HandedOn so_far values derivatives [] ts = so_far
HandedOn so_far values derivatives (w ∷ ws) [] = so_far
HandedOn so_far values derivatives (w ∷ ws) (t ∷ ts) =
    HandedOn (Anew so_far (Handed values derivatives t.call) (effect w)) t.values t.derivatives ws ts

-- the last accepted request, and the tables last lent, as they were left
unfoldable pub later_request : Option Request → Effect → Inputs → Option Request
later_request o stays i = o
later_request o (goes_on m n) (request q) = some q
later_request o (starts_at n) (request q) = some q

unfoldable pub last_accepted : Option Request → List Verdict → List Call → Option Request
last_accepted o [] cs = o
last_accepted o (w ∷ ws) [] = o
last_accepted o (w ∷ ws) (c ∷ cs) = last_accepted (later_request o (effect w) c.inputs) ws cs

unfoldable pub last_values : List Float → List Lent → List Float
last_values l [] = l
last_values l (t ∷ ts) = last_values t.values ts

unfoldable pub last_derivatives : List Float → List Lent → List Float
last_derivatives l [] = l
last_derivatives l (t ∷ ts) = last_derivatives t.derivatives ts

-- the rungs of an n are slots 0 to n of the value table and 0 to n − 1 of the derivative table; there are none where
-- the machine is empty
abbrev pub Rungs : (Request → List Float) → Machine → Option Request → List Float → List Float → Type 0
Rungs table empty o values derivatives = Unit
Rungs table (holds fn s x f n) none values derivatives = ⊥
Rungs table (holds fn s x f n) (some q) values derivatives =
    (take (n + 1) values ≡ take (n + 1) (tabled table q))
    × (take n derivatives ≡ take n (drop (num q.v) (tabled table q)))

-- ---- the claim about a list, from a state that counts as empty

pub record ListRight (table : Request → List Float) (s : Ladder) (cs : List Call) : Type 0 where
  -- every call, in one equation: answers, counts, the machine's refusals and no others, states handed back, and every
  -- slot of both tables
  pub calls : map left (turns s cs) ≡ due_all table s (verdicts empty (map fed cs)) cs
  -- the machine begun with the last state is the list's
  pub machine : machine_of (fields (last_state s (turns s cs))) ≡ after empty (map fed cs)
  -- where every call after the last start-over got the tables as the one before left them: all rungs are the table
  -- call's
  pub rungs : HandedOn Unit [] [] (verdicts empty (map fed cs)) (map lent (turns s cs))
      → Rungs table (after empty (map fed cs)) (last_accepted none (verdicts empty (map fed cs)) cs)
      (last_values [] (map lent (turns s cs)))
      (last_derivatives [] (map lent (turns s cs)))

-- ---- the claim about any state handed in, with any tables: the machine begun with its fields says which case it is

abbrev pub says : Ladder → Call → Verdict
says s c = verdict (machine_of (fields s)) (fed c)

-- slots `from` to from + n − 1 of a table are those of g, and all others are as found
pub record JustWritten (g : ℕ → Float) (from n : ℕ) (found left : List Float) : Type 0 where
  pub same_length : length left ≡ length found
  pub slots : (k : ℕ) → from ≤ k → k < from + n → slot left k ≡ g k
  pub others : (k : ℕ) → (k < from) ⊎ (from + n ≤ k) → slot left k ≡ slot found k

-- a climb from m to n, from the two values of the state s, in the tables l and d
pub record Climbed (s : Ladder) (m n : ℕ) (l d : List Float) (o : Outcome) : Type 0 where
  -- w(m − 1) and w(m) are the state's two values, and each later one is a step over the two before it
  pub w : ℕ → Float
  pub low : w (m - 1) ≡ s.values.low
  pub high : w m ≡ s.values.high
  pub carried : (k : ℕ) → m < k → k ≤ n
      → (let r = s.held.sequence in w k ≡ step r.function r.below r.x r.f k (w (k - 2)) (w (k - 1)))
  -- slot k of the values is w(k) for m < k ≤ n, and slot k of the derivatives the formula over w(k) and w(k + 1) for
  -- m ≤ k < n
  pub values : JustWritten w (m + 1) (n - m) l o.values
  pub derivatives : JustWritten (λ k. derived s k (w k) (w (k + 1))) m (n - m) d o.derivatives
  -- the state handed out holds w(n − 1) and w(n), and the pair is w(n − 1) with its formula
  pub state : o.given.state
      ≡ record {
        held = record { sequence = s.held.sequence; n = n };
        values = record { low = w (n - 1); high = w n };
      }
  pub pair : o.given.pair ≡ some (w (n - 1), derived s (n - 1) (w (n - 1)) (w n))
  pub refusal : o.given.refusal ≡ 0
  pub written : o.given.written ≡ some (n - m)

pub record StateRight (table : Request → List Float) (s : Ladder) (q : Request)
    (values derivatives : List Float) : Type 0 where
  -- a refusal gives its number alone, and leaves state and tables as found
  pub refusal : (number : ℕ) → says s (ask q values derivatives) ≡ refuses number
      → requested s q values derivatives ≡ outcome (gives s number none none) values derivatives
  -- value n − 1 and the derivative formula over both values of the state; nothing changes
  pub repeat : (n : ℕ) → says s (ask q values derivatives) ≡ repeats n → (s.held.n ≡ n) × (top_rung q.v ≡ n)
      × (requested s q values derivatives
      ≡ outcome (gives s 0 (some (s.values.low, derived s (n - 1) s.values.low s.values.high)) (some 0)) values derivatives)
  pub climb : (m n : ℕ) → says s (ask q values derivatives) ≡ climbs m n
      → (s.held.n ≡ m) × (top_rung q.v ≡ n) × (2 ≤ m) × (m < n)
      × Climbed s m n values derivatives (requested s q values derivatives)
  -- all rungs of the request are the table call's, and so are the two values held
  pub start_over : (n : ℕ) → Number (request q) → says s (ask q values derivatives) ≡ starts_over n
      → (top_rung q.v ≡ n)
      × (requested s q values derivatives
      ≡ outcome
      (gives (held_after table q n) 0 (answer q.function q.v q.x (length (table q))) (some (n + 1)))
      (filled (tabled_value table q) 0 0 (n + 1) values)
      (filled (tabled_derivative table q) 0 0 n derivatives))
  -- no accepted call hands out a state that counts as empty
  pub holding : Number (request q) → refused_by (says s (ask q values derivatives)) ≡ 0
      → counts_empty (fields (requested s q values derivatives).given.state) ≡ false
  -- the machine of the state handed out is the machine's next
  pub machine : Number (request q)
      → machine_of (fields (requested s q values derivatives).given.state)
      ≡ next (machine_of (fields s)) (fed (ask q values derivatives))

-- ---- DEMAND 3

pub record Demand3 : Type 0 where
  -- a ladder that holds nothing counts as empty
  pub begins : counts_empty (fields empty_state) ≡ true
  pub lists : (table : Request → List Float) → Long table → (s : Ladder) → counts_empty (fields s) ≡ true
      → (cs : List Call) → Numbers cs → ListRight table s cs
  pub any_state : (table : Request → List Float) → Long table
      → (s : Ladder) (q : Request) (values derivatives : List Float) → StateRight table s q values derivatives
