-- A ladder that goes out to C and comes in again.
use Rattle.std.proofs.Common.{◌≡◌, refl, sym, Bool, true, false, not, cond, ℕ, Float, eqb, ne_eqb}
use Rattle.std.proofs.Math.Option.{some, none}
use Rattle.std.specs.Float.{nan}
use Rattle.std.specs.Int.{from_bool}
use Rattle.floats.proofs.Values.{nan_is}
use Rattle.answer.proofs.Laws.{answer_laws}
use Rattle.floats.specs.Numbers.{function_number}
use Rattle.floats.specs.declared.Function.{Function}
use Rattle.floats.specs.declared.Function.TheVariants.{D, «V»}
use Rattle.ladder_states.specs.declared.Ladder.{Ladder}
use Rattle.gozhnerim_structs.specs.declared.GozhnerimLadder.{GozhnerimLadder}
use Rattle.gozhnerim_structs.specs.Answers.{pair_or_nan}
use Rattle.gozhnerim_structs.specs.Ladders.{function_of, ladder_by, ladder_in, ladder_out, handed_back}

-- ---- a function by its number

pub by_number : (function : Function) (n : ℕ) → function_number function ≡ n → function_of n ≡ some function
unfolding function_of
by_number D n e = rw (← e)
by_number «V» n e = rw (← e)

pub by_no_number : (n : ℕ) → (n ≡ 1 → ⊥) → (n ≡ 2 → ⊥) → function_of n ≡ none
unfolding function_of
by_no_number n a b = rw (ne_eqb n 1 a, ne_eqb n 2 b)

-- a `bool` as a number
pub side_told : (b : Bool) → from_bool b ≡ cond b 1 0
side_told true = refl
side_told false = refl

-- what the conversion of an answer takes
pub pair_there : (p : Float × Float) → pair_or_nan (some p) ≡ p
unfolding pair_or_nan
pair_there p = refl

pub no_pair_there : pair_or_nan none ≡ (nan, nan)
unfolding pair_or_nan
no_pair_there = refl

pub ruleset flat_laws = (answer_laws, nan_is, pair_there, no_pair_there)

-- ---- out, and in again

by_function : (function : Function) → function_of (function_number function) ≡ some function
unfolding function_of
by_function D = refl
by_function «V» = refl

by_side : (b : Bool) → not (eqb (cond b 1 0) 0) ≡ b
by_side true = refl
by_side false = refl

-- it comes in as itself
pub in_out : (s : Ladder) → ladder_in (ladder_out s) ≡ s
unfolding ladder_in ladder_by ladder_out
in_out s = rw (by_function s.held.sequence.function, by_side s.held.sequence.below) refl

by_refusal : (held : GozhnerimLadder) (next : Ladder) (b : Bool) → (b ≡ false → next ≡ ladder_in held)
    → ladder_in (cond b (ladder_out next) held) ≡ next
by_refusal held next true kept = in_out next
by_refusal held next false kept = sym (kept refl)

-- the state handed back comes in as the ladder's next one, where a refusal leaves the ladder as it was
pub in_handed_back : (held : GozhnerimLadder) (refusal : ℕ) (next : Ladder)
    → (eqb refusal 0 ≡ false → next ≡ ladder_in held)
    → ladder_in (handed_back held refusal next) ≡ next
unfolding handed_back
in_handed_back held refusal next kept = by_refusal held next (eqb refusal 0) kept
