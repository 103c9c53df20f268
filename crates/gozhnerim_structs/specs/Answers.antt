-- An answer in C (01, "A request comes in"): the refusal's number, 0 where there is none, and the pair, NaN twice where
-- there is none.
use Rattle.std.proofs.Math.Option.{Option, some, none}
use Rattle.std.specs.Prelude.{ℕ, Float}
use Rattle.std.specs.Float.{nan}
use Rattle.gozhnerim_structs.specs.declared.GozhnerimAnswer.{GozhnerimAnswer}

unfoldable pub pair_or_nan : Option (Float × Float) → Float × Float
pair_or_nan (some p) = p
pair_or_nan none = (nan, nan)

unfoldable pub answer_of : ℕ → Option (Float × Float) → GozhnerimAnswer
answer_of number pair = record { refusal = number; value = (pair_or_nan pair).0; derivative = (pair_or_nan pair).1 }
