-- 01, "Off the ladder's path" and "A request comes in": the request that answers the pair of `maclaurin_series`, with
-- its refusals. The definitions of the refusal and the answer are shut to other crates.
pub mod Open
use Rattle.std.specs.Prelude.{Bool, cond, ℕ, [], ◌∷◌, Float}
use Rattle.std.specs.List.{list_any}
use Rattle.std.proofs.Math.Option.{Option}
use Rattle.std.specs.Float.Ieee.{is_nan}
use Rattle.signs.specs.Signs.{infinite}
use Rattle.answer.specs.Answer.{answer_by}
use Rattle.maclaurin_series.specs.Series.{pb_maclaurin}

-- 1 where an input number is NaN, 5 where one is infinite, 0 where it is accepted

-- a test of every input
abbrev pub any_input : (Float → Bool) → Float → Float → Float → Float → Float → Bool
any_input test a x c0 c1 e = list_any test (a ∷ x ∷ c0 ∷ c1 ∷ e ∷ [])

pub refusal : Float → Float → Float → Float → Float → ℕ
refusal a x c0 c1 e = cond (any_input is_nan a x c0 c1 e) 1 (cond (any_input infinite a x c0 c1 e) 5 0)

pub answer : Float → Float → Float → Float → Float → Option (Float × Float)
answer a x c0 c1 e = answer_by (refusal a x c0 c1 e) (pb_maclaurin a x c0 c1 e)
