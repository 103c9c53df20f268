-- An answer, in 01's words ("A request comes in"): a refusal number, which is 0 where there is none, or the pair of
-- value and derivative.
use Rattle.std.specs.Prelude.{cond, ℕ, eqb, Float, Result, Ok, Err}
use Rattle.std.proofs.Math.Option.{Option, some, none}
use Rattle.answer.specs.declared.Pair.{Pair}
use Rattle.answer.specs.declared.Refusal.{Refusal}
use Rattle.answer.specs.declared.Refusal.TheVariants.{NotANumber, OrderTooLarge, TableTooShort, OrderOutsideExpansion}
use Rattle.answer.specs.declared.Refusal.TheVariants.{Infinite, NotForward, RungDiffers}

unfoldable pub number : Refusal → ℕ
number NotANumber = 1
number OrderTooLarge = 2
number TableTooShort = 3
number OrderOutsideExpansion = 4
number Infinite = 5
number NotForward = 6
number RungDiffers = 7

-- of a test or a request, whatever it gives where it is not refused
unfoldable pub refusal_of : {A : Type 0} → Result A Refusal → ℕ
refusal_of (Ok a) = 0
refusal_of (Err refusal) = number refusal

unfoldable pub pair_of : Result Pair Refusal → Option (Float × Float)
pair_of (Ok pair) = some (pair.value, pair.derivative)
pair_of (Err refusal) = none

-- what is answered by the refusal's number: the pair with 0, and none with any other
unfoldable pub answer_by : ℕ → Float × Float → Option (Float × Float)
answer_by number pair = cond (eqb number 0) (some pair) none
