-- The tested reader in C (02, #102; the C interface): the number, 0 where a column is lent, and how many slots of it.
use Rattle.std.specs.Prelude.{List, ℕ, length, Float, Result, Ok, Err}
use Rattle.std.proofs.Math.Option.{Option, some, none}
use Rattle.answer.specs.declared.Refusal.{Refusal}
use Rattle.ladder_reader.specs.declared.Column.{Column}
use Rattle.ladder_reader.specs.Numbers.{column_of}
use Rattle.ladder_machine.specs.declared.Held.{Held}
use Rattle.ladder_tested_reader.specs.Tested.{tested, tested_part}
use Rattle.gozhnerim_structs.specs.declared.GozhnerimLadder.{GozhnerimLadder}
use Rattle.gozhnerim_structs.specs.Ladders.{ladder_in}
use Rattle.gozhnerim_parts.specs.declared.GozhnerimPart.{GozhnerimPart}

-- which is 1 for the values and 2 for the derivatives; any other number names neither, and nothing is lent
unfoldable pub part_named : Option Column → Held → List Float → List Float → Option (List Float)
part_named (some column) h values derivatives = tested_part column h values derivatives
part_named none h values derivatives = none

unfoldable pub slots_of : Option (List Float) → ℕ
slots_of (some part) = length part
slots_of none = 0

-- the slots of a result, none with a refusal
unfoldable pub slots_in : Result ℕ Refusal → ℕ
slots_in (Ok slots) = slots
slots_in (Err refusal) = 0

unfoldable pub tested_in_c : GozhnerimLadder → ℕ → List Float → List Float → GozhnerimPart
tested_in_c held which values derivatives =
    let h = (ladder_in held).held in
    record {
      refusal = tested h values derivatives;
      length = slots_of (part_named (column_of which) h values derivatives);
    }
