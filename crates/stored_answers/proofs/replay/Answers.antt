-- `stored_answers::replay` meets its contract: the records that differ are counted, and bytes left over as one.
use Rattle.std.proofs.Common.{rules, tests, ◌≡◌, refl, ◌/◌, length, not}
use Rattle.std.proofs.lemmas.Iterator.{YieldsList-from_slice}
use Rattle.std.proofs.lemmas.Iterator.Consumers.{count_from_yields_List, YieldsList-from_filter}
use Rattle.std.specs.List.{filter}
use Rattle.std.specs.Simd.{first_chunks}
use Rattle.stored_answers.specs.Answers.{held}
use Rattle.stored_answers.proofs.Counts.{missed_is, counted}
use Rattle.stored_answers.proofs.replay.Goals as goal

pub returns-clause-counted : goal.returns-clause-counted
returns-clause-counted c =
    let s = c.args.s.now in
    let k = length s / 32 in
    let found : c.count-differing.result ≡ length (filter (λ r. not (held r)) (first_chunks 32 k s)) =
    count_from_yields_List c.filter.result c.count-differing.result c.count-differing.ensures.ran
    (YieldsList-from_filter _ (λ r. not (held r)) (YieldsList-from_slice (first_chunks 32 k s) cc) c.filter.ensures.closure (λ x b q h. search (rules, tests))) in
    rw (found, counted k s, c.from.ensures, missed_is, c.is_empty.ensures, c.as_chunks.ensures.back_len) refl
