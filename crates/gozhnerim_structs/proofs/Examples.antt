-- The structs field by field, in the words of include/gozhnerim.h, proved by computing them: four lists, with any
-- numbers where none is written out, and one theorem over them.
use Rattle.std.proofs.Common.{◌≡◌, refl, Bool, true, false, List, [], ◌∷◌, map, ℕ, Float}
use Rattle.std.proofs.Math.Option.{Option, some, none}
use Rattle.std.specs.Float.{nan}
use Rattle.floats.specs.declared.Function.{Function}
use Rattle.floats.specs.declared.Function.TheVariants.{D, «V»}
use Rattle.ladder_states.specs.declared.Ladder.{Ladder}
use Rattle.ladder_states.specs.States.{empty_state}
use Rattle.ladder.specs.Ladder.{Given}
use Rattle.gozhnerim_structs.specs.declared.GozhnerimAnswer.{GozhnerimAnswer}
use Rattle.gozhnerim_structs.specs.declared.GozhnerimLadder.{GozhnerimLadder}
use Rattle.gozhnerim_structs.specs.declared.GozhnerimReply.{GozhnerimReply}
use Rattle.gozhnerim_structs.specs.Answers.{pair_or_nan, answer_of}
use Rattle.gozhnerim_structs.specs.Ladders.{function_of, ladder_by, ladder_in, ladder_out}
use Rattle.gozhnerim_structs.specs.Ladders.{handed_back, count_of, reply_of}

-- a function's values over a list of arguments and values
abbrev pub Holds : {A B : Type 0} → (A → B) → List (A × B) → Type 0
Holds {A} {B} f examples = map (λ (e : A × B). f e.0) examples ≡ map (λ (e : A × B). e.1) examples

module _ (held : GozhnerimLadder) (n count : ℕ) (reserved : List ℕ) (x f low high value derivative : Float) where
  -- a ladder, and a state in C
  abbrev pub ladder : Function → Bool → Ladder
  ladder function below = record {
    held = record { sequence = record { function = function; below = below; x = x; f = f }; n = n };
    values = record { low = low; high = high };
  }

  abbrev pub state : ℕ → ℕ → List ℕ → GozhnerimLadder
  state function side reserved = record {
    function = function;
    below_zero = side;
    n = n;
    reserved = reserved;
    x = x;
    f = f;
    value_below = low;
    value_top = high;
  }

  -- a state that comes in: 1 is D, 2 is V, and with any other function it is empty; below_zero above 1 counts as 1
  abbrev pub comes_in : List (GozhnerimLadder × Ladder)
  comes_in =
      (state 1 0 reserved, ladder D false) ∷
      (state 2 1 reserved, ladder «V» true) ∷
      (state 1 7 reserved, ladder D true) ∷
      (state 0 0 reserved, empty_state) ∷
      (state 3 1 reserved, empty_state) ∷
      []

  -- a ladder that goes out: reserved is 0
  abbrev pub out : ℕ → ℕ → GozhnerimLadder
  out function side = state function side (0 ∷ 0 ∷ 0 ∷ [])

  abbrev pub goes_out : List (Ladder × GozhnerimLadder)
  goes_out =
      (ladder D false, out 1 0) ∷
      (ladder «V» true, out 2 1) ∷
      []

  -- what a request gives, and a reply in C
  abbrev pub given : Ladder → ℕ → Option (Float × Float) → Option ℕ → Given
  given next refusal pair written = record { state = next; refusal = refusal; pair = pair; written = written }

  abbrev pub reply : GozhnerimLadder → ℕ → ℕ → Float → Float → GozhnerimReply
  reply next refusal written value derivative = record {
    ladder = next;
    refusal = refusal;
    written = written;
    value = value;
    derivative = derivative;
  }

  -- a reply: with a refusal the state as it came, every field, the count 0, and NaN twice
  abbrev pub replies : List (Given × GozhnerimReply)
  replies =
      (given (ladder D false) 0 (some (value, derivative)) (some count), reply (out 1 0) 0 count value derivative) ∷
      (given (ladder D false) 3 none none, reply held 3 0 nan nan) ∷
      []

  -- an answer, by the refusal's number and the pair
  abbrev pub answers : List ((ℕ × Option (Float × Float)) × GozhnerimAnswer)
  answers =
      ((0, some (value, derivative)), record { refusal = 0; value = value; derivative = derivative }) ∷
      ((5, none), record { refusal = 5; value = nan; derivative = nan }) ∷
      []

  abbrev pub answered : ℕ × Option (Float × Float) → GozhnerimAnswer
  answered a = answer_of a.0 a.1

  pub examples_hold : Holds ladder_in comes_in × Holds ladder_out goes_out × Holds (reply_of held) replies
      × Holds answered answers
  unfolding pair_or_nan answer_of function_of ladder_by ladder_in ladder_out handed_back count_of reply_of
  examples_hold = (refl, refl, refl, refl)
