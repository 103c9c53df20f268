-- 01, "Off the ladder's path" and "A request comes in": the request that answers D and D' by the mantissas of
-- `elementary_expansion`, with its refusals. The definitions of the refusal and the answer are shut to other crates.
pub mod Open
pub mod Examples
use Rattle.std.specs.Prelude.{Bool, ◌&&◌, ◌||◌, cond, not, ℕ, Float}
use Rattle.std.proofs.Math.Option.{Option}
use Rattle.std.specs.Float.Ieee.{is_nan, lt, le, neg}
use Rattle.signs.specs.Signs.{infinite}
use Rattle.answer.specs.Answer.{answer_by}
use Rattle.mul_exp.specs.MulExp.{mul_exp}
use Rattle.expansion_elementary.specs.Mantissas.{mantissas}
use Rattle.expansion.specs.Constants.{order_limit, f20}

-- 1 where an input number is NaN, 4 where not −2147483648 < v ≤ −20, 5 where x is infinite, 0 where it is accepted

abbrev pub in_range : Float → Bool
in_range v = lt (neg order_limit) v && le v (neg f20)

pub refusal : Float → Float → ℕ
refusal v x = cond (is_nan v || is_nan x) 1 (cond (not (in_range v)) 4 (cond (infinite x) 5 0))

-- "mul_exp" of both mantissas
abbrev pub pair_by : Float × Float × Float → Float × Float
pair_by m = (mul_exp m.0 m.2, mul_exp m.1 m.2)

pub answer : Float → Float → Option (Float × Float)
answer v x = answer_by (refusal v x) (pair_by (mantissas v x))
