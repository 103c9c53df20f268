-- A ladder's state and reply in C (01, "The ladder"; the C interface).
use Rattle.std.specs.Prelude.{[], ◌∷◌, ℕ, not, cond, eqb}
use Rattle.std.proofs.Math.Option.{Option, some, none}
use Rattle.floats.specs.Numbers.{function_number}
use Rattle.floats.specs.declared.Function.{Function}
use Rattle.floats.specs.declared.Function.TheVariants.{D, «V»}
use Rattle.order.specs.declared.Sequence.{Sequence}
use Rattle.ladder_states.specs.declared.Ladder.{Ladder}
use Rattle.ladder_states.specs.States.{state_of, empty_state}
use Rattle.ladder.specs.Ladder.{Given}
use Rattle.gozhnerim_structs.specs.declared.GozhnerimLadder.{GozhnerimLadder}
use Rattle.gozhnerim_structs.specs.declared.GozhnerimReply.{GozhnerimReply}
use Rattle.gozhnerim_structs.specs.Answers.{pair_or_nan}

-- ---- the state that comes in: function 1 is D, 2 is V, and with any other it is empty; below_zero counts as 1 where
-- it is not 0; reserved is not looked at

unfoldable pub function_of : ℕ → Option Function
function_of number = cond (eqb number 1) (some D) (cond (eqb number 2) (some «V») none)

unfoldable pub ladder_by : Option Function → GozhnerimLadder → Ladder
ladder_by (some function) s =
    let below = not (eqb s.below_zero 0) in
    let sequence : Sequence = record { function = function; below = below; x = s.x; f = s.f } in
    state_of sequence s.n s.value_below s.value_top
ladder_by none s = empty_state

unfoldable pub ladder_in : GozhnerimLadder → Ladder
ladder_in s = ladder_by (function_of s.function) s

-- ---- the state that an accepted request hands back

unfoldable pub ladder_out : Ladder → GozhnerimLadder
ladder_out s =
    let r = s.held.sequence in
    record {
      function = function_number r.function;
      below_zero = cond r.below 1 0;
      n = s.held.n;
      reserved = 0 ∷ 0 ∷ 0 ∷ [];
      x = r.x;
      f = r.f;
      value_below = s.values.low;
      value_top = s.values.high;
    }

-- ---- the reply: on a refusal the count is 0, the two numbers are NaN and the state is the one that came, every field

unfoldable pub handed_back : GozhnerimLadder → ℕ → Ladder → GozhnerimLadder
handed_back held refusal next = cond (eqb refusal 0) (ladder_out next) held

unfoldable pub count_of : Option ℕ → ℕ
count_of (some count) = count
count_of none = 0

unfoldable pub reply_of : GozhnerimLadder → Given → GozhnerimReply
reply_of held g = record {
  ladder = handed_back held g.refusal g.state;
  refusal = g.refusal;
  written = count_of g.written;
  value = (pair_or_nan g.pair).0;
  derivative = (pair_or_nan g.pair).1;
}
