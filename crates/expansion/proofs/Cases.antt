-- What a proof of the refusal takes: its number, test by test.
use Rattle.answer.proofs.Laws.{refusal_numbers}
use Rattle.expansion.specs.Expansion.Open.{order_nan, argument_nan, order_below, order_above, argument_infinite, accepted}

pub ruleset cases = (refusal_numbers, order_nan, argument_nan, order_below, order_above, argument_infinite, accepted)
