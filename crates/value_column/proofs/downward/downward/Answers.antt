-- `value_column::downward::downward` meets its contract: the two top rungs are stored, and those below them lowered.
use Rattle.std.proofs.Common.{refl}
use Rattle.value_column.proofs.Branches.{lowered_column}
use Rattle.value_column.proofs.Room.{room_facts}
use Rattle.value_column.proofs.downward.downward.Goals as goal

pub returns : goal.returns
returns c =
    let g = c.args in
    let r = g.rungs in
    let w = c.top_rungs-two in
    let room = room_facts _ _ c.requires in
    lowered_column r.sequence r.u r.n g.t.now _ c.descend.new.t w.result.low w.result.high room.0 room.2 w.ensures refl c.descend.ensures
