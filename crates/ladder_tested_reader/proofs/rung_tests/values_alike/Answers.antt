-- `ladder_tested_reader::rung_tests::values_alike` meets its contract: at rung k slots 0 to k − 1 are alike with what they are tested against.
use Rattle.std.proofs.Common.{◌≡◌, sym, ◌+◌, arith}
use Rattle.slots.specs.Slots.{slot}
use Rattle.ladder_tested_reader.specs.Tested.{value_over}
use Rattle.ladder_tested_reader.proofs.Alike.{none_yet, turned, wrong, zero_due, one_due, two_due, step_due}
use Rattle.ladder_tested_reader.proofs.rung_tests.values_alike.Goals as goal

pub returns-then-not-alike : goal.returns-then-not-alike
unfolding slot
returns-then-not-alike c =
    let g = c.args in
    let s = c.start_rungs-start in
    wrong (value_over g.sequence g.values.now) g.values.now 0 (g.n + 1) _ _ (omega arith) c.if-not-alike.true c.alike.ensures
    (zero_due g.sequence g.values.now s.result.low s.result.high s.ensures)

pub returns-then-not-alike-2 : goal.returns-then-not-alike-2
unfolding slot
returns-then-not-alike-2 c =
    let g = c.args in
    let s = c.start_rungs-start in
    wrong (value_over g.sequence g.values.now) g.values.now 1 (g.n + 1) _ _ (omega (arith, c.requires.least)) c.if-not-alike-2.true c.alike-2.ensures
    (one_due g.sequence g.values.now s.result.low s.result.high s.ensures)

pub returns-then-n-lt2 : goal.returns-then-n-lt2
unfolding slot
returns-then-n-lt2 c =
    let g = c.args in
    let s = c.start_rungs-start in
    let due = value_over g.sequence g.values.now in
    let l = g.values.now in
    let a = turned due l 0 _ _ (none_yet due l) c.if-not-alike.false c.alike.ensures (zero_due g.sequence l s.result.low s.result.high s.ensures) in
    let b = turned due l 1 _ _ a c.if-not-alike-2.false c.alike-2.ensures (one_due g.sequence l s.result.low s.result.high s.ensures) in
    let e : g.n ≡ 1 = omega (arith, c.requires.least, c.if-n-lt2.true) in
    sym (rw e b)

pub returns-then-not-alike-3 : goal.returns-then-not-alike-3
unfolding slot
returns-then-not-alike-3 c =
    let g = c.args in
    wrong (value_over g.sequence g.values.now) g.values.now 2 (g.n + 1) _ _ (omega arith) c.if-not-alike-3.true c.alike-3.ensures
    (two_due g.sequence g.values.now c.rung_two.result c.rung_two.ensures)

pub loop-k-init : goal.loop-k-init
unfolding slot
loop-k-init c =
    let g = c.args in
    let l = g.values.now in
    let s = c.start_rungs-start in
    let due = value_over g.sequence l in
    let a = turned due l 0 _ _ (none_yet due l) c.if-not-alike.false c.alike.ensures (zero_due g.sequence l s.result.low s.result.high s.ensures) in
    let b = turned due l 1 _ _ a c.if-not-alike-2.false c.alike-2.ensures (one_due g.sequence l s.result.low s.result.high s.ensures) in
    record {
      from = omega arith;
      to = omega arith;
      so_far = turned due l 2 _ _ b c.if-not-alike-3.false c.alike-3.ensures (two_due g.sequence l c.rung_two.result c.rung_two.ensures);
    }

pub returns-then-not-alike-4 : goal.returns-then-not-alike-4
unfolding slot
returns-then-not-alike-4 c =
    let g = c.args in
    let k = c.loop-k.k in
    wrong (value_over g.sequence g.values.now) g.values.now k (g.n + 1) _ _ (omega arith) c.if-not-alike-4.true c.alike-in-loop-k.ensures
    (step_due g.sequence g.values.now k c.step.result c.loop-k.invariant.from c.step.ensures)

pub loop-k-preserved : goal.loop-k-preserved
unfolding slot
loop-k-preserved c =
    let g = c.args in
    let l = g.values.now in
    let k = c.loop-k.k in
    let i = c.loop-k.invariant in
    record {
      from = omega arith;
      to = omega arith;
      so_far =
          turned (value_over g.sequence l) l k _ _ i.so_far c.if-not-alike-4.false c.alike-in-loop-k.ensures
          (step_due g.sequence l k c.step.result i.from c.step.ensures);
    }
