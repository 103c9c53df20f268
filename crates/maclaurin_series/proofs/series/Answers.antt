-- `maclaurin_series::series` meets its contract: the turns that are left lead to the sums.
use Rattle.std.proofs.Common.{refl, ap, arith, Float}
use Rattle.std.specs.Float.Ieee.{of_bits}
use Rattle.floats.proofs.Loops.{goes, stops, done}
use Rattle.maclaurin_series.specs.Series.{State, turn, series}
use Rattle.maclaurin_series.proofs.series.Goals as goal

abbrev fifth : State → Float
fifth s = s.4

abbrev sixth : State → Float
sixth s = s.5

pub loop-n-init : goal.loop-n-init
unfolding series turn of_bits
loop-n-init c = refl

pub loop-n-preserved : goal.loop-n-preserved
unfolding series turn
loop-n-preserved c =
    rw (c.abs-last.ensures, c.from-nf.ensures)
    (goes (turn _ _) _ _ _ _ c.loop-n.invariant (omega arith)
    (rw (
      c.min.ensures,
      c.abs-in-loop-n.ensures,
      c.abs.ensures,
      c.max.ensures,
      c.abs-last.ensures,
      c.abs-size.ensures,
      c.from-nf.ensures,
    ) at c.if-max-min.false))

pub returns-then-max-min : goal.returns-then-max-min
unfolding series turn
returns-then-max-min c =
    let e = stops (turn _ _) _ _ _ _ c.loop-n.invariant (omega arith)
    (rw (
      c.min.ensures,
      c.abs-in-loop-n.ensures,
      c.abs.ensures,
      c.max.ensures,
      c.abs-last.ensures,
      c.abs-size.ensures,
      c.from-nf.ensures,
    ) at c.if-max-min.true) in
    record { value = rw c.from-nf.ensures (ap fifth e); derivative = rw c.from-nf.ensures (ap sixth e) }

pub returns-after-loop-n : goal.returns-after-loop-n
unfolding series turn
returns-after-loop-n c =
    let e = done (turn _ _) _ _ _ _ c.loop-n.invariant (omega arith) in
    record { value = ap fifth e; derivative = ap sixth e }
