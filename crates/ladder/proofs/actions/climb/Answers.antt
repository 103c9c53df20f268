-- `ladder::actions::climb` meets its contract: the climb from the state's two values, which has room.
use Rattle.std.proofs.Common.{◌∙◌}
use Rattle.ladder.proofs.Climbs.{climbed_state, climbed_values_law, climbed_derivatives_law}
use Rattle.ladder.proofs.actions.climb.Goals as goal

pub returns : goal.returns
returns c =
    let e = c.climb-two.ensures in
    let s = c.args.state in
    record {
      state = c.new.ensures.state ∙ climbed_state s _ _ _ c.requires _ _ e.top;
      values = climbed_values_law s _ _ _ c.requires _ e.values;
      derivatives = climbed_derivatives_law s _ _ _ c.requires _ e.derivatives;
    }
