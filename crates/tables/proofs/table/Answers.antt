-- `tables::table` meets its contract: a refusal leaves the table, and else both columns are filled and read at n − 1.
use Rattle.std.proofs.Common.{◌≡◌, ℕ, ◌*◌, ◌≤◌, ◌<◌, length, Float, false, sym, ◌∙◌, arith, rules}
use Rattle.std.proofs.Math.Option.{some}
use Rattle.std.proofs.lemmas.Result.{err_from_is_err_and}
use Rattle.order.specs.Order.{below, shifted, fraction_of, top_rung, num}
use Rattle.order.specs.Facts.{Split}
use Rattle.order.proofs.Laws.{num_least}
use Rattle.answer.specs.Answer.{number, refusal_of, pair_of}
use Rattle.table_refusals.specs.Refusals.{refusal_by}
use Rattle.table_refusals.proofs.Laws.{order_facts}
use Rattle.answer.proofs.Laws.{passed, passed_up}
use Rattle.tables.specs.Tables.{refusal}
use Rattle.tables.proofs.Calls.{refused_early, too_short, long_enough, accepted, left_as_found, settled}
use Rattle.tables.proofs.table.Goals as goal
use Rattle.tables.proofs.table.Goals.{In_ok-check}

-- neither 1 nor 2
clear : (c : In_ok-check) → refusal_by c.args.v c.args.x false ≡ 0
clear c = passed _ _ c.check.ensures _ c.in_ok-check.was

facts : (c : In_ok-check)
    → let v = c.args.v in
    Split (below v) (shifted v) (fraction_of v) (top_rung v) (num v)
facts c = order_facts c.args.v c.args.x false (search rules) (clear c)

-- n and num, as the calls found them
room : (v x : Float) (slots n m : ℕ) → refusal v x slots ≡ 0 → Split (below v) (shifted v) (fraction_of v) (top_rung v) (num v)
    → n ≡ top_rung v → m ≡ num v → (1 ≤ n) × (n ≤ 1000) × (n < m) × (3 ≤ m) × (2 * m ≤ slots)
room v x slots n m k f top e = rw (top, e) (f.least, f.most, f.room, num_least v, (accepted v x slots k).3)

pub returns-in_err-check : goal.returns-in_err-check
returns-in_err-check c =
    let g = c.args in
    let r = passed_up _ _ c.check.ensures _ _ c.in_err-check.was (err_from_is_err_and c.from_residual.result c.from_residual.ensures.1) in
    let e = refused_early g.v g.x (length g.t.now) r.2 in
    let p = left_as_found g.function g.v g.x g.t.now _ e r.2 in
    record { number = r.0 ∙ e; pair = r.1 ∙ p.0; after = p.1 }

-- n and num fit a counter
pub overflow_cast-num : goal.overflow_cast-num
overflow_cast-num c = omega (arith, (facts (goal.at.overflow_cast-num c).In_ok-check).num_most, c.num-num.ensures)

pub overflow_cast-split : goal.overflow_cast-split
overflow_cast-split c = omega (arith, (facts (goal.at.overflow_cast-split c).In_ok-check).most, c.split-split.ensures.top)

pub returns-then-t-num : goal.returns-then-t-num
unfolding number refusal_of pair_of
returns-then-t-num c =
    let g = c.args in
    let e = sym (too_short g.v g.x (length g.t.now) c.num-num.result (clear (goal.at.returns-then-t-num c).In_ok-check) c.num-num.ensures c.if-t-num.true) in
    let p = left_as_found g.function g.v g.x g.t.now 3 e (λ z. omega (arith, z)) in
    record { number = e; pair = p.0; after = p.1 }

pub pair_at-requires : goal.pair_at-requires
pair_at-requires c =
    let g = c.args in
    let there = (goal.at.pair_at-requires c).In_ok-check in
    let none = long_enough g.v g.x (length g.t.now) c.num-num.result (clear there) c.num-num.ensures c.if-t-num.false in
    let r = room g.v g.x (length g.t.now) _ _ none (facts there) (c.rungs-rungs.ensures.top ∙ c.split-split.ensures.top) c.num-num.ensures in
    record { some = r.0; room = rw c.fill_table.auto.t (omega (arith, r)) }

pub returns : goal.returns
unfolding refusal_of pair_of
returns c =
    let g = c.args in
    let o = c.split-split in
    let w = c.rungs-rungs in
    let there = (goal.at.returns c).In_ok-check in
    let none = long_enough g.v g.x (length g.t.now) c.num-num.result (clear there) c.num-num.ensures c.if-t-num.false in
    let p = settled g.function g.v g.x g.t.now none (facts there) w.result.sequence w.result.u w.result.n c.num-num.result
    c.fill_table.new.t
    (some (c.pair_at.result.value, c.pair_at.result.derivative))
    (rw (o.ensures.side, o.ensures.fraction) at w.ensures.sequence)
    (w.ensures.shifted ∙ o.ensures.shifted)
    (w.ensures.top ∙ o.ensures.top)
    c.num-num.ensures
    c.fill_table.ensures
    (rw (c.pair_at.ensures.value, c.pair_at.ensures.derivative)) in
    record { number = sym none; pair = p.0; after = p.1 }
