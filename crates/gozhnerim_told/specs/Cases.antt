-- Which case a reply in C is (01, "The ladder"): 0 with a refusal, 1 a repeat, 2 a climb, 3 a start-over. A repeat has
-- written nothing and a start-over n + 1 rungs; a climb is between.
use Rattle.std.specs.Prelude.{ℕ, cond, eqb, ltb}
use Rattle.gozhnerim_structs.specs.declared.GozhnerimReply.{GozhnerimReply}

unfoldable pub case_in : GozhnerimReply → ℕ
case_in r =
    cond (eqb r.refusal 0) (cond (eqb r.written 0) 1 (cond (ltb r.ladder.n r.written) 3 2)) 0
