-- `value_column::downward::scaled` meets its contract: the rungs down from n are raw ones, and each is scaled by what rung 0 has to be.
use Rattle.std.proofs.Common.{◌≡◌, ◌+◌, arith, length, take}
use Rattle.std.specs.Float.Ieee.{Float}
use Rattle.std.proofs.lemmas.List.{length-take}
use Rattle.rungs.specs.Rungs.{scaled_rung}
use Rattle.slots.specs.Slots.{slot}
use Rattle.value_column.proofs.Branches.{scaled_column, in_table}
use Rattle.value_column.proofs.Room.{room_facts}
use Rattle.value_column.proofs.downward.scaled.Goals as goal

pub returns : goal.returns
unfolding slot
returns c =
    let g = c.args in
    let r = g.rungs.sequence in
    let n = g.rungs.n in
    let room = room_facts _ _ c.requires in
    let long : length (take (n + 1) g.t.now) ≡ n + 1 = omega (arith, length-take {A = Float}) in
    in_table (scaled_rung r n) (n + 1) g.t.now c.scale.new.t (omega arith)
    (scaled_column r n (take (n + 1) g.t.now) c.descend.new.t c.scale.new.t c.start_value.result c.seed.result long
    c.seed.ensures
    c.start_value.ensures
    (rw c.seed_rung.ensures at c.descend.ensures)
    c.scale.ensures)
