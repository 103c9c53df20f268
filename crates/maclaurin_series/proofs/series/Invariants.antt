use Rattle.std.proofs.Common.{◌≡◌, false, ◌-◌, get_or}
use Rattle.std.specs.Float.{nan}
use Rattle.floats.specs.Loops.{count_up}
use Rattle.maclaurin_series.specs.Series.{turn, series}
use Rattle.maclaurin_series.proofs.series.Given as goal

abbrev pub invariant-loop-n : goal.invariant-loop-n
invariant-loop-n l =
    count_up (turn l.a l.x) (60 - l.n) l.n
    (false, (get_or l.b 0 nan, get_or l.b 1 nan, get_or l.b 2 nan, get_or l.b 3 nan, l.value, l.derivative, l.xn, l.prev))
    ≡ series l.a l.x l.fn.start.value l.fn.start.derivative
