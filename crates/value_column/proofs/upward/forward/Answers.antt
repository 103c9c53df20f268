-- `value_column::upward::forward` meets its contract: at rung k the two below it are carried, and slots 0 to k − 1 are filled.
use Rattle.std.proofs.Common.{◌≡◌, refl, ◌∙◌, ◌+◌, ◌-◌, arith}
use Rattle.value_column.proofs.Turns.{climbed, climbed_slot}
use Rattle.value_column.proofs.Room.{room_facts}
use Rattle.value_column.proofs.Branches.{second, third, two_rungs, three_rungs}
use Rattle.value_column.proofs.upward.forward.Goals as goal

pub returns-then-n-lt2 : goal.returns-then-n-lt2
returns-then-n-lt2 c =
    let s = c.start_rungs-start in
    let room = room_facts _ _ c.requires in
    two_rungs c.args.rungs.sequence c.args.rungs.n c.args.t.now _ s.result.low s.result.high (omega arith) s.ensures refl

pub loop-k-init : goal.loop-k-init
loop-k-init c =
    let g = c.args in
    let s = c.start_rungs-start in
    let w = c.rung_two-value in
    record {
      from = omega arith;
      to = omega arith;
      low = c.up-two.ensures.low ∙ second g.rungs.sequence s.result.low s.result.high s.ensures;
      high = c.up-two.ensures.high ∙ third g.rungs.sequence s.result.low s.result.high w.result s.ensures w.ensures;
      slots = three_rungs g.rungs.sequence g.rungs.n g.t.now g.t.now s.result.low s.result.high w.result s.ensures w.ensures;
    }

pub loop-k-preserved : goal.loop-k-preserved
loop-k-preserved c =
    let g = c.args in
    let l = c.loop-k in
    let i = l.invariant in
    let w = climbed g.rungs.sequence l.k l.two.low l.two.high c.step-value.result i.from i.low i.high c.step-value.ensures in
    let e : l.k + 1 - 2 ≡ l.k - 1 = omega arith in
    let h : l.k + 1 - 1 ≡ l.k = omega arith in
    record {
      from = omega arith;
      to = omega arith;
      low = c.up-two-in-loop-k.ensures.low ∙ rw e i.high;
      high = c.up-two-in-loop-k.ensures.high ∙ rw h w;
      slots = climbed_slot g.rungs.sequence l.k c.step-value.result l.t g.t.now i.slots w;
    }

pub returns-else-n-lt2 : goal.returns-else-n-lt2
returns-else-n-lt2 c = let e : c.loop-k.k ≡ c.args.rungs.n + 1 = omega arith in rw (← e) c.loop-k.invariant.slots

pub returns-else-n-lt2-2 : goal.returns-else-n-lt2-2
returns-else-n-lt2-2 c =
    let g = c.args in
    let l = c.loop-k in
    let i = l.invariant in
    let w = climbed g.rungs.sequence l.k l.two.low l.two.high c.step-value.result i.from i.low i.high c.step-value.ensures in
    let e : l.k ≡ g.rungs.n = omega arith in
    rw (← e) (climbed_slot g.rungs.sequence l.k c.step-value.result l.t g.t.now i.slots w)
