-- std's values as the definitions have them.
use Rattle.std.proofs.Common.{◌≡◌, Bool, true, false, refl, pos}
use Rattle.std.specs.Float.{binary64}
use Rattle.std.specs.Float.Ieee.{of_bits, of_int}
use Rattle.std.specs.Int.{from_bool}
use Rattle.floats.specs.Operations.{whole}
use Rattle.signs.proofs.Signs.{nan_is, infinity_is, negative_infinity_is}
use Rattle.answer.proofs.Laws.{answer_laws}
use Rattle.stored_answers.specs.Floats.{truth}

-- `0.0`, as the number of no refusal
pub zero_is : of_bits binary64 0 ≡ whole 0
unfolding of_bits of_int
zero_is = refl

-- `f64::from` of a bool
pub truth_is : (b : Bool) → of_int binary64 (pos (from_bool b)) ≡ truth b
unfolding of_bits of_int
truth_is true = refl
truth_is false = refl

pub ruleset named_values = (zero_is, nan_is, infinity_is, negative_infinity_is, truth_is)

-- what an answer's part takes
pub ruleset answer_parts = (named_values, answer_laws)
