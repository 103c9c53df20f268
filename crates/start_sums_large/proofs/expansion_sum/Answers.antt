-- `start_sums_large::expansion_sum` meets its contract: the turns that are left lead to the sum.
use Rattle.std.proofs.Common.{◌≡◌, ap, arith, Float}
use Rattle.floats.specs.Operations.{whole}
use Rattle.floats.proofs.Loops.{goes, stops, done}
use Rattle.start_sums_large.specs.StartSums.{expansion_turn}
use Rattle.start_sums_large.proofs.expansion_sum.Goals as goal
use Rattle.start_sums_large.proofs.expansion_sum.Goals.{else-loop-k-test, then-loop-k-test+else-abs+else-k-count}

pub returns-then-abs : goal.returns-then-abs
unfolding expansion_turn
returns-then-abs g c by acts =
    let e : c.next-r.result ≡ by (whole c.loop-k.k) c.loop-k.r = rw c.from.ensures at (acts _ _ _ c.next-r.ensures) in
    rw e
    (ap (λ (s : Float × Float). s.1)
    (stops (expansion_turn by) _ _ _ _ (c.loop-k.invariant by acts) (omega arith) (rw (c.abs.ensures, e) at c.if-abs.true)))

pub loop-k-preserved : goal.loop-k-preserved
unfolding expansion_turn
loop-k-preserved g c by acts =
    let e : c.next-r.result ≡ by (whole c.loop-k.k) c.loop-k.r = rw c.from.ensures at (acts _ _ _ c.next-r.ensures) in
    rw e
    (goes (expansion_turn by) _ _ _ _ (c.loop-k.invariant by acts) (omega arith) (rw (c.abs.ensures, e) at c.if-abs.false))

pub returns : goal.returns
unfolding expansion_turn
returns g c by acts =
    elim c.loop-k-test.branch [
      | else-loop-k-test w ↦
          rw w.sum-is
          (ap (λ (s : Float × Float). s.1)
          (done (expansion_turn by) _ _ _ _ (c.loop-k.invariant by acts) (omega arith)))
      | then-loop-k-test+else-abs+else-k-count w ↦
          let e : w.next-r.result ≡ by (whole c.loop-k.k) c.loop-k.r = rw w.from.ensures at (acts _ _ _ w.next-r.ensures) in
          rw (w.sum-is, e)
          (ap (λ (s : Float × Float). s.1)
          (done (expansion_turn by) _ _ _ _
          (goes (expansion_turn by) _ _ _ _ (c.loop-k.invariant by acts) (omega arith) (rw (w.abs.ensures, e) at w.if-abs.false))
          (omega arith)))
    ]
