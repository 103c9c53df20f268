-- A ladder's request in C (01, "The ladder"; the C interface): the reply, and both tables as they are left.
use Rattle.std.specs.Prelude.{List, Float}
use Rattle.ladder_machine.specs.declared.Request.{Request}
use Rattle.ladder.specs.Ladder.{requested}
use Rattle.gozhnerim_structs.specs.declared.GozhnerimLadder.{GozhnerimLadder}
use Rattle.gozhnerim_structs.specs.declared.GozhnerimReply.{GozhnerimReply}
use Rattle.gozhnerim_structs.specs.Ladders.{ladder_in, reply_of}

pub record OutcomeInC : Type 0 where
  pub reply : GozhnerimReply
  pub values : List Float
  pub derivatives : List Float

unfoldable pub requested_in_c : GozhnerimLadder → Request → List Float → List Float → OutcomeInC
requested_in_c held q values derivatives =
    let o = requested (ladder_in held) q values derivatives in
    record { reply = reply_of held o.given; values = o.values; derivatives = o.derivatives }
