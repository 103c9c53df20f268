-- #102 over the C interface, `TestedReaderInC`, at the end: what gozhnerim_tested_column gives for the state that a
-- list of calls of gozhnerim_ladder_d and gozhnerim_ladder_v handed out, and for any state, whatever its bits are. Of
-- the interface it cites the structs, `requested_in_c` and `tested_in_c` alone, which the contracts equate with what
-- the calls give. All else is in the words of `TestedReader` (crates/ladder_tested_lists/specs/TestedLists.antt) and of
-- demand 3 over the C interface (crates/gozhnerim_lists/specs/Lists.antt).
use Rattle.std.specs.Prelude.{◌≡◌, ◌≢◌, List, map, ◌⊎◌, ◌↔◌, ℕ, ◌+◌, not, cond, eqb, Float}
use Rattle.std.proofs.Math.Option.{Option, some, none}
use Rattle.floats.specs.declared.Function.{Function}
use Rattle.ladder_machine.specs.declared.Held.{Held}
use Rattle.ladder_machine.specs.declared.Request.{Request}
use Rattle.ladder_machine.specs.Machine.{empty, after, verdicts}
use Rattle.ladder_lists.specs.Demand3.{Call, fed, Numbers, Long, last_accepted, Rungs}
use Rattle.ladder_tested_lists.specs.TestedLists.{Empty, NotForwardHeld, NotForward, top, TooShort, F64s, Carried}
use Rattle.gozhnerim_structs.specs.declared.GozhnerimLadder.{GozhnerimLadder}
use Rattle.gozhnerim_lists.specs.Lists.{calls_in_c, last_in_c, function_in}
use Rattle.gozhnerim_parts.specs.declared.GozhnerimPart.{GozhnerimPart}
use Rattle.gozhnerim_parts.specs.Parts.{tested_in_c}

-- ---- what the reader gives

-- how many slots `which` names: 1 is the n + 1 values, 2 the n derivatives, and any other number names none
unfoldable pub slots_named : ℕ → ℕ → ℕ
slots_named which n = cond (eqb which 1) (n + 1) (cond (eqb which 2) n 0)

-- 6, else 3, else 0 where the tables are right, else 7; the length is that of the column with 0, and 0 with a refusal
pub record ReadsInC (not_forward too_short right : Type 0) (which n : ℕ) (part : GozhnerimPart) : Type 0 where
  pub six : (part.refusal ≡ 6) ↔ not_forward
  pub three : (part.refusal ≡ 3) ↔ ((¬ not_forward) × too_short)
  pub lends : (part.refusal ≡ 0) ↔ ((¬ not_forward) × (¬ too_short) × right)
  pub seven : (part.refusal ≡ 7) ↔ ((¬ not_forward) × (¬ too_short) × (¬ right))
  pub no_other : (part.refusal ≡ 6) ⊎ (part.refusal ≡ 3) ⊎ (part.refusal ≡ 0) ⊎ (part.refusal ≡ 7)
  pub length_lent : part.refusal ≡ 0 → part.length ≡ slots_named which n
  pub no_length : part.refusal ≢ 0 → part.length ≡ 0

-- ---- after a list of calls from a state that counts as empty

abbrev pub ReadsAfterInC : (Request → List Float) → GozhnerimLadder → List Call → List Float → List Float → ℕ → Type 0
ReadsAfterInC table held cs values derivatives which =
    let m = after empty (map fed cs) in
    ReadsInC (NotForward m) (TooShort (top m) values derivatives)
    (Rungs table m (last_accepted none (verdicts empty (map fed cs)) cs) values derivatives)
    which
    (top m)
    (tested_in_c (last_in_c held (calls_in_c held cs)) which values derivatives)

-- ---- any state handed in: with a function that is neither D nor V it counts as empty

abbrev pub held_as : Function → GozhnerimLadder → Held
held_as function s = record {
  sequence = record { function = function; below = not (eqb s.below_zero 0); x = s.x; f = s.f };
  n = s.n;
}

abbrev pub EmptyInC : Option Function → GozhnerimLadder → Type 0
EmptyInC none s = Unit
EmptyInC (some function) s = Empty (held_as function s)

abbrev pub NotForwardInC : Option Function → GozhnerimLadder → Type 0
NotForwardInC none s = Unit
NotForwardInC (some function) s = NotForwardHeld (held_as function s)

abbrev pub CarriedInC : Option Function → GozhnerimLadder → List Float → List Float → Type 0
CarriedInC none s values derivatives = Unit
CarriedInC (some function) s values derivatives = Carried (held_as function s).sequence s.n values derivatives

abbrev pub ReadsAnyInC : GozhnerimLadder → List Float → List Float → ℕ → Type 0
ReadsAnyInC held values derivatives which =
    let function = function_in held.function in
    ReadsInC (NotForwardInC function held) (TooShort held.n values derivatives)
    (CarriedInC function held values derivatives)
    which
    held.n
    (tested_in_c held which values derivatives)

-- ---- THE TESTED READER IN C

pub record TestedReaderInC : Type 0 where
  pub lists : (table : Request → List Float) → Long table → (held : GozhnerimLadder)
      → EmptyInC (function_in held.function) held
      → (cs : List Call) → Numbers cs → (values derivatives : List Float) → F64s values → F64s derivatives
      → (which : ℕ) → ReadsAfterInC table held cs values derivatives which
  pub any_state : (held : GozhnerimLadder) (values derivatives : List Float) → F64s values → F64s derivatives
      → (which : ℕ) → ReadsAnyInC held values derivatives which
