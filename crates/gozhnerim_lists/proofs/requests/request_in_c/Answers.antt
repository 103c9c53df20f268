-- `gozhnerim_lists::requests::request_in_c` meets its contract: the ladder's request, on the state that comes in.
use Rattle.std.proofs.Common.{ap, ◌∙◌}
use Rattle.gozhnerim_lists.specs.Requests.{OutcomeInC}
use Rattle.gozhnerim_lists.proofs.Counters.{taken_in_law}
use Rattle.gozhnerim_lists.proofs.Lists.{in_c}
use Rattle.gozhnerim_lists.proofs.requests.request_in_c.Goals as goal

pub returns : goal.returns
returns c =
    let g = c.args in
    let e = ap (in_c g.held) (rw c.from.ensures at c.request-reply.ensures) ∙ taken_in_law g.held g.request g.values.now g.derivatives.now in
    record {
      reply = c.reply_of.ensures ∙ ap (λ (o : OutcomeInC). o.reply) e;
      values = ap (λ (o : OutcomeInC). o.values) e;
      derivatives = ap (λ (o : OutcomeInC). o.derivatives) e;
    }
