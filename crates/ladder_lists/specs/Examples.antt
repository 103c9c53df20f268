-- 01's examples that are proved, P1 to P12 ("Examples at the edges"), as one list and one claim about it. A computed
-- number stands beside 01's own.
use Rattle.std.specs.Prelude.{◌≡◌, List, [], ◌∷◌, map, ℕ, ◌^◌, take, replicate, Float}
use Rattle.std.proofs.Math.Option.{Option, some}
use Rattle.std.specs.Float.Ieee.{neg}
use Rattle.floats.specs.Operations.{bits, decimal, f0, f1}
use Rattle.exponential.specs.Exponential.{exp}
use Rattle.gamma.specs.Gamma.{gamma2}
use Rattle.start_sums_small.specs.SmallSums.{dvsa}
use Rattle.order.specs.Order.{shifted, top_rung}
use Rattle.floats.specs.declared.Function.TheVariants.{D, «V»}
use Rattle.tables.specs.Tables.{refusal, table_after, answer}
use Rattle.ladder_machine.specs.declared.Request.{Request}
use Rattle.ladder_machine.specs.Machine.{asks}
use Rattle.ladder_states.specs.declared.Ladder.{Ladder}
use Rattle.ladder_states.specs.States.{empty_state}
use Rattle.ladder.specs.Ladder.{Outcome, requested}

-- requests to one ladder with the same two tables, each call given state and tables as the one before left them
unfoldable pub on_one_ladder : Ladder → List Request → List Float → List Float → List Outcome
on_one_ladder s [] values derivatives = []
on_one_ladder s (q ∷ qs) values derivatives =
    let o = requested s q values derivatives in
    o ∷ on_one_ladder o.given.state qs o.values o.derivatives

-- what a request shows: its written count and its pair
unfoldable pub shown : Outcome → Option ℕ × Option (Float × Float)
shown o = (o.given.written, o.given.pair)

-- what an example is about: a float, a number, a pair that is answered, slots, or what requests show
pub data Seen : Type 0 where
  float : Float → Seen
  whole : ℕ → Seen
  pair : Option (Float × Float) → Seen
  slots : List Float → Seen
  requests : List (Option ℕ × Option (Float × Float)) → Seen

abbrev pub two : Request
two = asks D (decimal 2 0) f0

abbrev pub four : Request
four = asks D (decimal 4 0) f0

-- each example with what 01 says of it
unfoldable pub examples : List (Seen × Seen)
examples =
    -- P1
    (float (exp f0), float (decimal 1 0))
    -- P2, P3
    ∷ (float (gamma2 (decimal 5 0)), float (decimal 24 0))
    ∷ (float (gamma2 (neg (decimal 3 0))), float (decimal (10 ^ 300) 0))
    -- P4
    ∷ (float (dvsa f0 f1), float (decimal 0 0))
    ∷ (float (dvsa f0 f0), float (decimal 1 0))
    -- P5: the pair; 6 slots do, 5 give 3
    ∷ (pair (answer D f0 f0 6), pair (some (decimal 1 0, decimal 0 0)))
    ∷ (whole (refusal f0 f0 6), whole 0)
    ∷ (whole (refusal f0 f0 5), whole 3)
    -- P6
    ∷ (pair (answer D f1 f0 8), pair (some (decimal 0 0, decimal 1 0)))
    -- P7: the pair, and the values in a table of ten slots
    ∷ (pair (answer D (decimal 2 0) f0 10), pair (some (neg (decimal 1 0), decimal 0 0)))
    ∷ (
      slots (take 4 (table_after D (decimal 2 0) f0 (replicate 10 f0))),
      slots (decimal 1 0 ∷ decimal 0 0 ∷ neg (decimal 1 0) ∷ neg (decimal 0 0) ∷ []),
    )
    -- P8
    ∷ (pair (answer «V» (neg f1) f0 8), pair (some (decimal 7978845608028654 16, decimal 0 0)))
    -- P9
    ∷ (whole (refusal (decimal 1000 0) f0 2006), whole 2)
    -- P10
    ∷ (whole (refusal (decimal 9995 1) f0 2004), whole 0)
    ∷ (whole (refusal (decimal 9995 1) f0 2003), whole 3)
    -- P11: on tables of 6 and 5 slots; the counts, and the pairs
    ∷ (
      requests (map shown (on_one_ladder empty_state (two ∷ four ∷ four ∷ two ∷ []) (replicate 6 f0) (replicate 5 f0))),
      requests (
          (some 4, some (neg (decimal 1 0), decimal 0 0))
          ∷ (some 2, some (decimal 3 0, decimal 0 0))
          ∷ (some 0, some (decimal 3 0, decimal 0 0))
          ∷ (some 4, some (neg (decimal 1 0), decimal 0 0))
          ∷ []
          ),
    )
    -- P12: u and n
    ∷ (float (shifted (bits 0x3fef_ffff_ffff_ffff)), float (decimal 2 0))
    ∷ (whole (top_rung (bits 0x3fef_ffff_ffff_ffff)), whole 2)
    ∷ []

abbrev pub computed : Seen × Seen → Seen
computed e = e.0

abbrev pub stated : Seen × Seen → Seen
stated e = e.1

-- THE CLAIM: what is computed is what 01 says, from the first to the last
unfoldable pub Examples : Type 0
Examples = map computed examples ≡ map stated examples
