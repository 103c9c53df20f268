-- `ladder_machine::judge` meets its contract: in an accepted request neither the argument nor the order's fraction is NaN.
use Rattle.std.proofs.Common.{arith, rules, T, ◌≡◌, false}
use Rattle.std.specs.Float.{binary64}
use Rattle.std.specs.Float.Ieee.{fits}
use Rattle.answer.proofs.Laws.{passed}
use Rattle.order.specs.Order.{below, shifted, fraction_of, top_rung, num}
use Rattle.order.specs.Facts.{Split}
use Rattle.order.proofs.Laws.{fraction_number}
use Rattle.table_refusals.specs.Refusals.{refusal_by}
use Rattle.table_refusals.proofs.Laws.{accepted_by, order_facts}
use Rattle.ladder_machine.proofs.judge.Goals as goal
use Rattle.ladder_machine.proofs.judge.Goals.{In_ok-check}

-- neither 1 nor 2
ok : (c : In_ok-check) → refusal_by c.args.request.v c.args.request.x false ≡ 0
ok c = passed _ _ c.check.ensures _ c.in_ok-check.was

order-fits : (c : In_ok-check) → T (fits binary64 c.args.request.v)
order-fits c = search rules

facts : (c : In_ok-check) → let v = c.args.request.v in Split (below v) (shifted v) (fraction_of v) (top_rung v) (num v)
facts c = order_facts c.args.request.v c.args.request.x false (order-fits c) (ok c)

-- n fits a counter
pub overflow_cast-n : goal.overflow_cast-n
overflow_cast-n c = omega (arith, (facts (goal.at.overflow_cast-n c).In_ok-check).most, c.split-split.ensures.top)

pub case_of-requires : goal.case_of-requires
case_of-requires c =
    let g = c.args in
    let there = (goal.at.case_of-requires c).In_ok-check in
    record {
      argument = rw c.sequence.ensures (accepted_by g.request.v g.request.x false (ok there)).1;
      fraction = rw (c.sequence.ensures, c.split-split.ensures.fraction) (fraction_number (facts there));
    }
