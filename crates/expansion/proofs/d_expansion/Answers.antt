-- `expansion::d_expansion` meets its contract: a refusal is passed up, and an accepted request answers the pair.
use Rattle.std.proofs.Common.{sym, ◌∙◌, ap}
use Rattle.std.proofs.Math.Option.{some}
use Rattle.std.proofs.lemmas.Result.{err_from_is_err_and}
use Rattle.answer.specs.Answer.{refusal_of, pair_of}
use Rattle.answer.proofs.Laws.{refused, answered, passed, passed_up}
use Rattle.expansion.specs.Expansion.Open.{answer_is, pair_is}
use Rattle.expansion.proofs.d_expansion.Goals as goal

pub returns-in_err-check : goal.returns-in_err-check
returns-in_err-check c =
    let r = passed_up _ _ c.check.ensures _ _ c.in_err-check.was (err_from_is_err_and c.from_residual.result c.from_residual.ensures.1) in
    record { number = r.0; pair = r.1 ∙ sym (rw (answer_is, refused _ _ r.2)) }

pub returns : goal.returns
unfolding refusal_of pair_of
returns c =
    let m = c.pbdv_elementary-m.ensures in
    let d = c.mul_exp_both.ensures in
    let r = passed _ _ c.check.ensures _ c.in_ok-check.was in
    record {
      number = sym r;
      pair = rw (answer_is, answered _ _ r) (ap some (pair_is _ _ _ _ _ _ _ (m.value, (m.derivative, m.exponent)) (d.value, d.derivative)));
    }
