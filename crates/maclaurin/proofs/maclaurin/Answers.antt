-- `maclaurin::maclaurin` meets its contract: a refusal is passed up, and an accepted request answers the pair.
use Rattle.std.proofs.Common.{◌≡◌, sym, ◌∙◌}
use Rattle.std.proofs.lemmas.Result.{err_from_is_err_and}
use Rattle.answer.specs.Answer.{refusal_of, pair_of}
use Rattle.answer.proofs.Laws.{refused, answered, passed, passed_up}
use Rattle.maclaurin.specs.Maclaurin.{refusal}
use Rattle.maclaurin.specs.Maclaurin.Open.{refusal_is, answer_is}
use Rattle.maclaurin.proofs.maclaurin.Goals as goal
use Rattle.maclaurin.proofs.maclaurin.Goals.{After-check}

-- what the test says of the request's own refusal
tested : (c : After-check) → let g = c.args in let w = g.start in refusal_of c.check.result ≡ refusal g.a g.x w.pair.value w.pair.derivative w.exponent
tested c = c.check.ensures ∙ sym (refusal_is _ _ _ _ _)

pub returns-in_err-check : goal.returns-in_err-check
returns-in_err-check c =
    let e = tested (goal.at.returns-in_err-check c).After-check in
    let r = passed_up _ _ e _ _ c.in_err-check.was (err_from_is_err_and c.from_residual.result c.from_residual.ensures.1) in
    record { number = r.0; pair = r.1 ∙ sym (rw (answer_is, refused _ _ r.2)) }

pub returns : goal.returns
unfolding refusal_of pair_of
returns c =
    let r = passed _ _ (tested (goal.at.returns c).After-check) _ c.in_ok-check.was in
    record { number = sym r; pair = rw (answer_is, answered _ _ r, c.pb_maclaurin.ensures.value, c.pb_maclaurin.ensures.derivative) }
