-- #102 (02, the tested reader), as one statement: `TestedReader`, at the end. Of the reader it cites `tested` and
-- `tested_part`, which the contract of `ladder_tested_reader::tested_column` equates with its result. All else is in
-- the documents' words: demand 3's lists, machine and table call (crates/ladder_lists/specs/Demand3.antt), a step of
-- the recurrence, the derivative formula, slots. Two f64s are alike exactly where they are equal here, all NaNs being
-- one. Of a state the reader is given what is held alone: its two values play no part.
use Rattle.std.specs.Prelude.{◌≡◌, ◌≢◌, List, map, ◌⊎◌, ◌↔◌, ℕ, ◌+◌, ◌-◌, ◌≤◌, ◌<◌, true, false, T, length, take}
use Rattle.std.specs.Prelude.{Float, Ok, Err}
use Rattle.std.proofs.Math.Option.{Option, some, none}
use Rattle.std.specs.Borrow.{Bor}
use Rattle.std.specs.Float.{binary64}
use Rattle.std.specs.Float.Ieee.{fits, is_nan, le, eq}
use Rattle.floats.specs.Operations.{◌⊕◌, ◌⊗◌, bits, whole, f0, f1}
use Rattle.signs.specs.Signs.{absolute}
use Rattle.floats.specs.declared.Function.TheVariants.{«V»}
use Rattle.answer.specs.Answer.{refusal_of}
use Rattle.answer.specs.declared.Refusal.{Refusal}
use Rattle.answer.specs.declared.Refusal.TheVariants.{NotForward as NotForwardRefusal, TableTooShort, RungDiffers}
use Rattle.order.specs.Order.{below, fraction_of, top_rung}
use Rattle.order.specs.declared.Sequence.{Sequence}
use Rattle.recurrence.specs.Recurrence.{step}
use Rattle.derivatives.specs.Derivatives.{derivative}
use Rattle.branches.specs.Branches.{runs_forward}
use Rattle.rungs.specs.Rungs.{start_rungs}
use Rattle.slots.specs.Slots.{slot}
use Rattle.ladder_machine.specs.declared.Held.{Held}
use Rattle.ladder_machine.specs.declared.Request.{Request}
use Rattle.ladder_machine.specs.Machine.{Machine, empty, holds, bits_of, after, verdicts}
use Rattle.ladder_reader.specs.declared.Column.{Column}
use Rattle.ladder_reader.specs.declared.Column.TheVariants.{Values, Derivatives}
use Rattle.ladder_states.specs.declared.Ladder.{Ladder}
use Rattle.ladder_tested_reader.specs.Tested.{tested, tested_part, part_of}
use Rattle.ladder_lists.specs.Demand3.{Call, fed, turns, fields, Numbers, Long, last_state, last_accepted, Rungs}

-- ---- what is held

-- a state counts as empty: n is 0 or above 1000, x or f is NaN, or the size of f is 1 or more
abbrev pub Empty : Held → Type 0
Empty h =
    let r = h.sequence in
    (h.n ≡ 0) ⊎ (1000 < h.n) ⊎ (is_nan r.x ≡ true) ⊎ (is_nan r.f ≡ true) ⊎ (le f1 (absolute r.f) ≡ true)

-- it does, or the branch held does not run forward: the u held is n + f, rounded
abbrev pub NotForwardHeld : Held → Type 0
NotForwardHeld h = let r = h.sequence in Empty h ⊎ (runs_forward r.function r.below r.x (whole h.n ⊕ r.f) ≡ false)

-- the same of the machine
abbrev pub NotForward : Machine → Type 0
NotForward empty = Unit
NotForward (holds fn s x f n) = runs_forward fn s (bits x) (whole n ⊕ bits f) ≡ false

-- the n held, 0 where it is empty
abbrev pub top : Machine → ℕ
top empty = 0
top (holds fn s x f n) = n

-- fewer than n + 1 values or n derivatives
abbrev pub TooShort : ℕ → List Float → List Float → Type 0
TooShort n values derivatives = (length values < n + 1) ⊎ (length derivatives < n)

-- the column named: n + 1 values or n derivatives, from the first slot of its table on
abbrev pub named : Column → ℕ → List Float → List Float → List Float
named Values n values derivatives = take (n + 1) values
named Derivatives n values derivatives = take n derivatives

-- every slot is an f64
abbrev pub F64s : List Float → Type 0
F64s l = (k : ℕ) → k < length l → T (fits binary64 (slot l k))

-- ---- what the reader gives: 6, else 3, else the column where the tables are right, else 7

pub record Reads (not_forward too_short right : Type 0) (column : List Float) (number : ℕ) (part : Option (List Float))
    : Type 0 where
  pub six : (number ≡ 6) ↔ not_forward
  pub three : (number ≡ 3) ↔ ((¬ not_forward) × too_short)
  pub lends : (number ≡ 0) ↔ ((¬ not_forward) × (¬ too_short) × right)
  pub seven : (number ≡ 7) ↔ ((¬ not_forward) × (¬ too_short) × (¬ right))
  -- and no other number
  pub no_other : (number ≡ 6) ⊎ (number ≡ 3) ⊎ (number ≡ 0) ⊎ (number ≡ 7)
  pub part_lent : number ≡ 0 → part ≡ some column
  pub no_part : number ≢ 0 → part ≡ none

-- ---- after a list of calls from a state that counts as empty, with any two tables: all rungs, values 0 to n and
-- derivatives 0 to n − 1, are those of the table call for the last accepted request (`Rungs`)

abbrev pub ReadsAfter : (Request → List Float) → Ladder → List Call → List Float → List Float → Column → Type 0
ReadsAfter table s cs values derivatives which =
    let m = after empty (map fed cs) in
    let h = fields (last_state s (turns s cs)) in
    Reads (NotForward m) (TooShort (top m) values derivatives)
    (Rungs table m (last_accepted none (verdicts empty (map fed cs)) cs) values derivatives)
    (named which (top m) values derivatives)
    (tested h values derivatives)
    (tested_part which h values derivatives)

-- what the machine holds then is the last accepted request, all its rungs
abbrev pub HoldsLast : Machine → Option Request → Type 0
HoldsLast m none = m ≡ empty
HoldsLast m (some q) =
    m ≡ holds q.function (below q.v) (bits_of q.x) (bits_of (fraction_of q.v)) (top_rung q.v)

-- ---- any state handed in, with any two tables: rungs 0 and 1 are worked out afresh, and each later slot is what the
-- recurrence makes of the two before it

-- V below 0 at f = 0
abbrev pub OwnTwo : Sequence → Type 0
OwnTwo r = (r.function ≡ «V») × (r.below ≡ true) × (eq r.f f0 ≡ true)

pub record Carried (r : Sequence) (n : ℕ) (values derivatives : List Float) : Type 0 where
  pub start : (slot values 0 ≡ (start_rungs r).0) × (slot values 1 ≡ (start_rungs r).1)
  -- its rung 2 is x times rung 1
  pub own_two : 2 ≤ n → OwnTwo r → slot values 2 ≡ r.x ⊗ slot values 1
  pub steps : (k : ℕ) → 2 ≤ k → k ≤ n → ¬ ((k ≡ 2) × OwnTwo r)
      → slot values k ≡ step r.function r.below r.x r.f k (slot values (k - 2)) (slot values (k - 1))
  pub formulas : (k : ℕ) → k < n
      → slot derivatives k ≡ derivative r.function r.below r.x r.f k (slot values k) (slot values (k + 1))

abbrev pub ReadsAny : Held → List Float → List Float → Column → Type 0
ReadsAny h values derivatives which =
    Reads (NotForwardHeld h) (TooShort h.n values derivatives) (Carried h.sequence h.n values derivatives)
    (named which h.n values derivatives)
    (tested h values derivatives)
    (tested_part which h values derivatives)

-- ---- THE TESTED READER

pub record TestedReader : Type 0 where
  pub lists : (table : Request → List Float) → Long table → (s : Ladder) → Empty (fields s)
      → (cs : List Call) → Numbers cs → (values derivatives : List Float) → F64s values → F64s derivatives
      → (which : Column) → ReadsAfter table s cs values derivatives which
  pub holds_last : (cs : List Call) → Numbers cs
      → (let feeds = map fed cs in HoldsLast (after empty feeds) (last_accepted none (verdicts empty feeds) cs))
  pub any_state : (h : Held) (values derivatives : List Float) → F64s values → F64s derivatives
      → (which : Column) → ReadsAny h values derivatives which
  -- how the contract reads the result: the number of each refusal, the part itself, and none with a refusal
  pub numbers_read : ((part : Bor (List Float)) → refusal_of (Ok part) ≡ 0)
      × (refusal_of {A = Unit} (Err NotForwardRefusal) ≡ 6)
      × (refusal_of {A = Unit} (Err TableTooShort) ≡ 3)
      × (refusal_of {A = Unit} (Err RungDiffers) ≡ 7)
  pub part_read : (part : Bor (List Float)) → part_of (Ok part) ≡ some part.now
  pub none_read : (refusal : Refusal) → part_of (Err refusal) ≡ none
