-- `maclaurin::check` meets its contract: each return is what the tests on the way to it leave.
use Rattle.std.proofs.Common.{rules, ◌≡◌, sym, ◌∙◌}
use Rattle.std.proofs.lemmas.Iterator.Search.{any_from_yields_List}
use Rattle.std.proofs.lemmas.Iterator.{YieldsList-from_slice}
use Rattle.std.specs.List.{list_any}
use Rattle.std.specs.Float.Ieee.{is_nan}
use Rattle.signs.specs.Signs.{infinite}
use Rattle.answer.specs.Answer.{number, refusal_of}
use Rattle.maclaurin.proofs.check.Goals as goal
use Rattle.maclaurin.proofs.check.Goals.{After-any, After-any-2}

nan_found : (c : After-any) → c.any.result ≡ list_any is_nan c.args.inputs.now
nan_found c = any_from_yields_List is_nan _ _ c.any.result c.any.ensures.ran (YieldsList-from_slice c.args.inputs.now cc) (λ x b q k. search rules)

infinity_found : (c : After-any-2) → c.any-2.result ≡ list_any infinite c.args.inputs.now
infinity_found c = any_from_yields_List infinite _ _ c.any-2.result c.any-2.ensures.ran (YieldsList-from_slice c.args.inputs.now cc) (λ x b q k. search rules)

pub returns-then-any : goal.returns-then-any
unfolding number refusal_of
returns-then-any c = rw (sym (nan_found (goal.at.returns-then-any c).After-any) ∙ c.if-any.true)

pub returns-then-any-2 : goal.returns-then-any-2
unfolding number refusal_of
returns-then-any-2 c =
    let at = goal.at.returns-then-any-2 c in
    rw (sym (nan_found at.After-any) ∙ c.if-any.false, sym (infinity_found at.After-any-2) ∙ c.if-any-2.true)

pub returns : goal.returns
unfolding refusal_of
returns c =
    let at = goal.at.returns c in
    rw (sym (nan_found at.After-any) ∙ c.if-any.false, sym (infinity_found at.After-any-2) ∙ c.if-any-2.false)
