-- `ladder_example::p11` meets its contract: each call's reply and tables are its contract's, and so the next call's.
use Rattle.std.proofs.Common.{refl, replicate}
use Rattle.floats.specs.Operations.{f0}
use Rattle.ladder_lists.proofs.OneLadder.{counts, pairs, stored}
use Rattle.ladder_example.proofs.p11.Goals as goal

pub returns : goal.returns
returns c =
    let l = replicate 6 f0 in
    let d = replicate 5 f0 in
    let a = c.request-a in
    let b = c.request-b in
    let e = c.request-c in
    let g = c.request-d in
    let s = c.empty-ladder in
    record {
      written = counts l d refl refl s.result a.result b.result e.result g.result a.new.values a.new.derivatives b.new.values b.new.derivatives e.new.values e.new.derivatives
          g.new.values g.new.derivatives s.ensures.state a.ensures b.ensures e.ensures g.ensures;
      answered = pairs l d refl refl s.result a.result b.result e.result g.result a.new.values a.new.derivatives b.new.values b.new.derivatives e.new.values e.new.derivatives
          g.new.values g.new.derivatives s.ensures.state a.ensures b.ensures e.ensures g.ensures;
      stored = stored l d refl refl s.result a.result b.result e.result g.result a.new.values a.new.derivatives b.new.values b.new.derivatives e.new.values e.new.derivatives
          g.new.values g.new.derivatives s.ensures.state a.ensures b.ensures e.ensures g.ensures;
    }
