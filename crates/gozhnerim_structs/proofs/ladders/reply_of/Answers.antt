-- `gozhnerim_structs::ladders::reply_of` meets its contract: each arm is the definitions' clause.
use Rattle.std.proofs.Common.{ne_eqb}
use Rattle.std.specs.Float.Ieee.{of_bits}
use Rattle.answer.specs.Answer.{refusal_of}
use Rattle.answer.proofs.Laws.{numbered}
use Rattle.ladder.specs.Ladder.{written_of, pair_in, given_by}
use Rattle.gozhnerim_structs.specs.Answers.{pair_or_nan}
use Rattle.gozhnerim_structs.specs.Ladders.{handed_back, count_of, reply_of}
use Rattle.gozhnerim_structs.proofs.ladders.reply_of.Goals as goal

pub returns : goal.returns
unfolding refusal_of written_of pair_in given_by pair_or_nan handed_back count_of reply_of
returns c = rw (c.in-Ok.is, c.from-2.ensures, c.from-3.ensures)

pub returns-in-Err : goal.returns-in-Err
unfolding refusal_of written_of pair_in given_by pair_or_nan handed_back count_of reply_of of_bits
returns-in-Err c = rw (c.in-Err.is, c.from.ensures, ne_eqb _ 0 (numbered c.in-Err.refusal))
