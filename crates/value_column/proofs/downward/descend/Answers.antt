-- `value_column::downward::descend` meets its contract: at rung k it and the one above it are carried; in the second loop slots k and up are filled too.
use Rattle.std.proofs.Common.{◌≡◌, sym, ◌∙◌, ◌+◌, ◌-◌, arith, length, min}
use Rattle.rungs.specs.Rungs.{descent}
use Rattle.rungs.proofs.Laws.{descent_top, descent_above, descent_on}
use Rattle.slots.specs.Slots.{filled}
use Rattle.slots.proofs.Filled.{filled_same}
use Rattle.value_column.proofs.Turns.{lowered_turn, lowered_slot}
use Rattle.value_column.proofs.downward.descend.Goals as goal

pub loop-k-init : goal.loop-k-init
loop-k-init c =
    let g = c.args in
    record {
      above = omega (arith, c.min-stored.ensures);
      below = omega arith;
      low = sym (descent_top g.sequence g.top g.two.low g.two.high);
      high = sym (descent_above g.sequence g.top g.two.low g.two.high);
    }

pub loop-k-preserved : goal.loop-k-preserved
loop-k-preserved c =
    let g = c.args in
    let l = c.loop-k in
    let i = l.invariant in
    let e : l.k - 1 + 1 ≡ l.k = omega arith in
    record {
      above = omega arith;
      below = omega arith;
      low =
          c.down-two.ensures.low
          ∙ lowered_turn g.sequence g.top g.two.low g.two.high l.k l.two.low l.two.high c.step_down.result (omega arith) i.below i.low i.high c.step_down.ensures;
      high = c.down-two.ensures.high ∙ rw e i.low;
    }

pub loop-k-2-init : goal.loop-k-2-init
unfolding filled
loop-k-2-init c =
    let r = c.args.sequence in
    let m = c.min-stored.result in
    let two = c.loop-k.two in
    let e : min m (length c.args.t.now) - m ≡ 0 = omega arith in
    record {
      below = omega arith;
      low = sym (descent_top r m two.low two.high);
      high = sym (descent_above r m two.low two.high);
      slots = rw e;
    }

pub loop-k-2-preserved : goal.loop-k-2-preserved
loop-k-2-preserved c =
    let g = c.args in
    let m = c.min-stored.result in
    let from = c.loop-k.two in
    let l = c.loop-k-2 in
    let i = l.invariant in
    let e : l.k - 1 + 1 ≡ l.k = omega arith in
    let w = lowered_turn g.sequence m from.low from.high l.k l.two.low l.two.high c.step_down-value.result (omega arith) i.below i.low i.high c.step_down-value.ensures in
    record {
      below = omega arith;
      low = c.down-two-in-loop-k-2.ensures.low ∙ w;
      high = c.down-two-in-loop-k-2.ensures.high ∙ rw e i.low;
      slots = lowered_slot g.sequence m from.low from.high l.k l.t g.t.now (omega arith) i.below i.slots c.step_down-value.result (omega (arith, c.min-stored.ensures)) w;
    }

-- the second loop goes on where the first one stops
pub returns : goal.returns
returns c =
    let g = c.args in
    let m = c.min-stored.result in
    let two = c.loop-k.two in
    let i = c.loop-k.invariant in
    let value = descent g.sequence g.top g.two.low g.two.high in
    let stop : c.loop-k.k ≡ m = omega (arith, i.above) in
    let low : two.low ≡ value m = rw stop at i.low in
    let high : two.high ≡ value (m + 1) = rw stop at i.high in
    let none : c.loop-k-2.k ≡ 0 = omega arith in
    let all : min m (length g.t.now) - 0 ≡ min g.top (length g.t.now) = omega (arith, c.min-stored.ensures) in
    rw (none, all) at c.loop-k-2.invariant.slots
    ∙ filled_same (descent g.sequence m two.low two.high) value 0 0 0 (min g.top (length g.t.now)) g.t.now
    (λ k b. rw (low, high) (descent_on g.sequence g.top m g.two.low g.two.high (omega (arith, c.min-stored.ensures)) (0 + k) (omega (arith, c.min-stored.ensures))))
