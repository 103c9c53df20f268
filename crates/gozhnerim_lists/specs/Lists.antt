-- DEMAND 3 over the C interface, `Demand3InC`, at the end: what lists of calls of gozhnerim_ladder_d and
-- gozhnerim_ladder_v give and leave, field by field of the structs, and what a call on any state does, whatever its
-- bits are (all NaNs being one). Of the interface it cites the structs and `requested_in_c` alone, which the contracts
-- equate with reply and tables. The numbers and fields of C are defined here; all else is in the words of `Demand3`
-- (crates/ladder_lists/specs/Demand3.antt).
use Rattle.std.specs.Prelude.{◌≡◌, List, [], ◌∷◌, map, ℕ, ◌+◌, ◌-◌, ◌≤◌, ◌<◌, not, cond, eqb, Float}
use Rattle.std.proofs.Math.Option.{Option, some, none}
use Rattle.std.specs.Float.{nan}
use Rattle.order.specs.Order.{below, fraction_of, top_rung}
use Rattle.floats.specs.declared.Function.{Function}
use Rattle.floats.specs.declared.Function.TheVariants.{D, «V»}
use Rattle.recurrence.specs.Recurrence.{step}
use Rattle.derivatives.specs.Derivatives.{derivative}
use Rattle.slots.specs.Slots.{filled}
use Rattle.ladder_machine.specs.declared.Request.{Request}
use Rattle.ladder_machine.specs.Machine.{Inputs, request, Machine, empty, next, after}
use Rattle.ladder_machine.specs.Machine.{Verdict, refuses, repeats, climbs, starts_over, effect, verdict, verdicts}
use Rattle.ladder_machine.specs.Held.{machine_of}
use Rattle.ladder_lists.specs.Demand3.{Call, ask, fed, Number, Numbers, Long, tabled_value, tabled_derivative}
use Rattle.ladder_lists.specs.Demand3.{values_due, derivatives_due, Lent, HandedOn, JustWritten}
use Rattle.ladder_lists.specs.Demand3.{last_accepted, last_values, last_derivatives, Rungs}
use Rattle.gozhnerim_structs.specs.declared.GozhnerimLadder.{GozhnerimLadder}
use Rattle.gozhnerim_structs.specs.declared.GozhnerimReply.{GozhnerimReply}
use Rattle.gozhnerim_lists.specs.Requests.{OutcomeInC, requested_in_c}

-- ---- a list of calls: each is given the state that the last one handed back, and any tables

unfoldable pub called_in_c : GozhnerimLadder → Inputs → List Float → List Float → OutcomeInC
called_in_c held (request q) values derivatives = requested_in_c held q values derivatives

unfoldable pub calls_in_c : GozhnerimLadder → List Call → List OutcomeInC
calls_in_c held [] = []
calls_in_c held (c ∷ cs) =
    let o = called_in_c held c.inputs c.values c.derivatives in
    o ∷ calls_in_c o.reply.ladder cs

-- the calls with the tables as they were left, and the last state
unfoldable pub lent_in_c : List Call → List OutcomeInC → List Lent
lent_in_c [] os = []
lent_in_c (c ∷ cs) [] = []
lent_in_c (c ∷ cs) (o ∷ os) = record { call = c; values = o.values; derivatives = o.derivatives } ∷ lent_in_c cs os

unfoldable pub last_in_c : GozhnerimLadder → List OutcomeInC → GozhnerimLadder
last_in_c held [] = held
last_in_c held (o ∷ os) = last_in_c o.reply.ladder os

-- ---- the machine begun with a state: 1 is D, 2 is V, and with any other function it is empty; below_zero says v < 0
-- where it is not 0

unfoldable pub function_in : ℕ → Option Function
function_in number = cond (eqb number 1) (some D) (cond (eqb number 2) (some «V») none)

unfoldable pub begun_by : Option Function → GozhnerimLadder → Machine
begun_by none s = empty
begun_by (some function) s =
    machine_of (record {
      sequence = record { function = function; below = not (eqb s.below_zero 0); x = s.x; f = s.f };
      n = s.n;
    })

abbrev pub begun_with : GozhnerimLadder → Machine
begun_with s = begun_by (function_in s.function) s

-- ---- what is due to a call, where `held` is the state given and the machine has spoken

unfoldable pub number_in : Function → ℕ
number_in D = 1
number_in «V» = 2

-- the state handed out for a request: every field
abbrev pub state_in_c : Request → Float → Float → ℕ → Float → Float → GozhnerimLadder
state_in_c q x f n low high = record {
  function = number_in q.function;
  below_zero = cond (below q.v) 1 0;
  n = n;
  reserved = 0 ∷ 0 ∷ 0 ∷ [];
  x = x;
  f = f;
  value_below = low;
  value_top = high;
}

module _ (table : Request → List Float) where
  -- an accepted request: the state holds values n − 1 and n of the table call, and the answer is slot n − 1 of its both
  -- columns
  abbrev pub answered_in_c : Request → ℕ → ℕ → GozhnerimReply
  answered_in_c q n count = record {
    ladder = state_in_c q q.x (fraction_of q.v) n (tabled_value table q (n - 1)) (tabled_value table q n);
    refusal = 0;
    written = count;
    value = tabled_value table q (n - 1);
    derivative = tabled_derivative table q (n - 1);
  }

  -- with a refusal the state comes back as it was, every field, the count is 0 and both numbers are NaN
  unfoldable pub reply_due : GozhnerimLadder → Verdict → Inputs → GozhnerimReply
  reply_due held (refuses number) i =
      record { ladder = held; refusal = number; written = 0; value = nan; derivative = nan }
  reply_due held (repeats n) (request q) = answered_in_c q n 0
  reply_due held (climbs m n) (request q) = answered_in_c q n (n - m)
  reply_due held (starts_over n) (request q) = answered_in_c q n (n + 1)

  unfoldable pub due_in_c : GozhnerimLadder → Verdict → Call → OutcomeInC
  due_in_c held w c = record {
    reply = reply_due held w c.inputs;
    values = values_due table (effect w) c.inputs c.values;
    derivatives = derivatives_due table (effect w) c.inputs c.derivatives;
  }

  unfoldable pub due_all_in_c : GozhnerimLadder → List Verdict → List Call → List OutcomeInC
  due_all_in_c held [] cs = []
  due_all_in_c held (w ∷ ws) [] = []
  due_all_in_c held (w ∷ ws) (c ∷ cs) = due_in_c held w c ∷ due_all_in_c (due_in_c held w c).reply.ladder ws cs

-- ---- the claim about a list, from a state that counts as empty

pub record ListRightInC (table : Request → List Float) (held : GozhnerimLadder) (cs : List Call) : Type 0 where
  -- every call, in one equation: every field of the replies, and every slot of both tables
  pub calls : calls_in_c held cs ≡ due_all_in_c table held (verdicts empty (map fed cs)) cs
  -- the machine begun with the last state is the list's
  pub machine : begun_with (last_in_c held (calls_in_c held cs)) ≡ after empty (map fed cs)
  -- where every call after the last start-over got the tables as the one before left them: all rungs are the table
  -- call's
  pub rungs : HandedOn Unit [] [] (verdicts empty (map fed cs)) (lent_in_c cs (calls_in_c held cs))
      → Rungs table (after empty (map fed cs)) (last_accepted none (verdicts empty (map fed cs)) cs)
      (last_values [] (lent_in_c cs (calls_in_c held cs))) (last_derivatives [] (lent_in_c cs (calls_in_c held cs)))

-- ---- the claim about every state handed in: the machine begun with it says which case it is

abbrev pub says_in_c : GozhnerimLadder → Call → Verdict
says_in_c held c = verdict (begun_with held) (fed c)

-- a climb from m to n, from the state's two values: as `Climbed`
pub record ClimbedInC (held : GozhnerimLadder) (q : Request) (m n : ℕ) (l d : List Float) (o : OutcomeInC)
    : Type 0 where
  pub w : ℕ → Float
  pub low : w (m - 1) ≡ held.value_below
  pub high : w m ≡ held.value_top
  pub carried : (k : ℕ) → m < k → k ≤ n
      → w k ≡ step q.function (below q.v) held.x held.f k (w (k - 2)) (w (k - 1))
  pub values : JustWritten w (m + 1) (n - m) l o.values
  pub derivatives : JustWritten (λ k. derivative q.function (below q.v) held.x held.f k (w k) (w (k + 1)))
      m (n - m) d o.derivatives
  pub reply : o.reply
      ≡ record {
        ladder = state_in_c q held.x held.f n (w (n - 1)) (w n);
        refusal = 0;
        written = n - m;
        value = w (n - 1);
        derivative = derivative q.function (below q.v) held.x held.f (n - 1) (w (n - 1)) (w n);
      }

pub record StateRightInC (table : Request → List Float) (held : GozhnerimLadder) (q : Request) (l d : List Float)
    : Type 0 where
  pub refusal : (number : ℕ) → says_in_c held (ask q l d) ≡ refuses number
      → requested_in_c held q l d
      ≡ record {
        reply = record { ladder = held; refusal = number; written = 0; value = nan; derivative = nan };
        values = l;
        derivatives = d;
      }
  -- the two values as they came, and the derivative formula over both
  pub repeat : (n : ℕ) → says_in_c held (ask q l d) ≡ repeats n → (held.n ≡ n) × (top_rung q.v ≡ n)
      × (requested_in_c held q l d
      ≡ record {
        reply = record {
          ladder = state_in_c q held.x held.f n held.value_below held.value_top;
          refusal = 0;
          written = 0;
          value = held.value_below;
          derivative =
              derivative q.function (below q.v) held.x held.f
              (n - 1) held.value_below held.value_top;
        };
        values = l;
        derivatives = d;
      })
  pub climb : (m n : ℕ) → says_in_c held (ask q l d) ≡ climbs m n
      → (held.n ≡ m) × (top_rung q.v ≡ n) × (2 ≤ m) × (m < n)
      × ClimbedInC held q m n l d (requested_in_c held q l d)
  pub start_over : (n : ℕ) → says_in_c held (ask q l d) ≡ starts_over n → (top_rung q.v ≡ n)
      × (requested_in_c held q l d
      ≡ record {
        reply = answered_in_c table q n (n + 1);
        values = filled (tabled_value table q) 0 0 (n + 1) l;
        derivatives = filled (tabled_derivative table q) 0 0 n d;
      })
  -- the machine of the state handed out is the machine's next
  pub machine : begun_with (requested_in_c held q l d).reply.ladder ≡ next (begun_with held) (fed (ask q l d))

-- ---- DEMAND 3 IN C

pub record Demand3InC : Type 0 where
  pub lists : (table : Request → List Float) → Long table → (held : GozhnerimLadder) → begun_with held ≡ empty
      → (cs : List Call) → Numbers cs → ListRightInC table held cs
  pub any_state : (table : Request → List Float) → Long table → (held : GozhnerimLadder) (q : Request)
      → Number (request q) → (l d : List Float) → StateRightInC table held q l d
