-- Lists of calls in C. The state that a call hands back is, as a ladder, the state that the ladder's request hands back; so a list of calls in C is the list of
-- the ladder's turns, of which demand 3 speaks; and what is due to a call of the ladder is, in C, what is due there.
use Rattle.std.proofs.Common.{◌≡◌, refl, sym, ap, ◌∙◌, true, List, [], ◌∷◌, map, ne_eqb, length, Float}
use Rattle.std.proofs.Math.Option.{Option, some, none}
use Rattle.floats.specs.Numbers.{function_number}
use Rattle.floats.specs.declared.Function.{Function}
use Rattle.floats.specs.declared.Function.TheVariants.{D, «V»}
use Rattle.ladder_machine.specs.declared.Request.{Request}
use Rattle.ladder_machine.specs.Machine.{Inputs, request, asked, Machine, empty, Verdict, refuses, repeats, climbs, starts_over, refused_by, effect, verdict, next, verdicts}
use Rattle.ladder_machine.specs.Held.{counts_empty, machine_of}
use Rattle.ladder_machine.proofs.Laws.{machine_empty, empty_machine, Accepts, accepts, written_refuses, written_repeats, written_climbs, written_starts_over, verdicts_nil, verdicts_cons}
use Rattle.ladder_states.specs.declared.Ladder.{Ladder}
use Rattle.ladder_states.specs.States.{held_in, empty_state}
use Rattle.ladder_states.proofs.Laws.{nothing_held}
use Rattle.ladder.specs.Ladder.{Outcome, requested}
use Rattle.ladder.proofs.Refusals.{refused_state}
use Rattle.ladder_lists.specs.Demand3.{Call, ask, fed, called_by, turns, left, Number, Numbers, Long, held_after, state_due, pair_due, due, due_all, last_state, Lent, lent}
use Rattle.ladder_lists.proofs.Held.{table_answer}
use Rattle.ladder_lists.proofs.Turns.{known_request}
use Rattle.gozhnerim_structs.specs.declared.GozhnerimLadder.{GozhnerimLadder}
use Rattle.gozhnerim_structs.specs.Answers.{pair_or_nan}
use Rattle.gozhnerim_structs.specs.Ladders.{function_of, ladder_by, ladder_in, ladder_out, handed_back, count_of, reply_of}
use Rattle.gozhnerim_structs.proofs.Laws.{in_handed_back}
use Rattle.gozhnerim_lists.specs.Requests.{OutcomeInC, requested_in_c}
use Rattle.gozhnerim_lists.specs.Lists.{called_in_c, calls_in_c, lent_in_c, last_in_c, function_in, begun_by, begun_with, number_in, reply_due, due_in_c, due_all_in_c}

-- ---- the state

-- the number that goes out is the theorem's own
pub same_number : (function : Function) → function_number function ≡ number_in function
unfolding number_in
same_number D = refl
same_number «V» = refl

-- the machine begun with a state in C is the one begun with the ladder that it is
begun_by_law : (o : Option Function) (held : GozhnerimLadder) → begun_by o held ≡ machine_of (held_in (ladder_by o held))
unfolding begun_by ladder_by
begun_by_law none held = sym (machine_empty (held_in empty_state) nothing_held)
begun_by_law (some function) held = refl

pub begun_is : (held : GozhnerimLadder) → begun_with held ≡ machine_of (held_in (ladder_in held))
unfolding function_in function_of ladder_in
begun_is held = begun_by_law (function_of held.function) held

pub begun_empty : (held : GozhnerimLadder) → begun_with held ≡ empty → counts_empty (held_in (ladder_in held)) ≡ true
begun_empty held e = empty_machine (held_in (ladder_in held)) (sym (begun_is held) ∙ e)

-- ---- one call

-- the state handed back is the ladder's next one
pub handed_on : (held : GozhnerimLadder) (q : Request) (l d : List Float)
    → ladder_in (requested_in_c held q l d).reply.ladder ≡ (requested (ladder_in held) q l d).given.state
unfolding requested_in_c reply_of
handed_on held q l d =
    let g = (requested (ladder_in held) q l d).given in
    in_handed_back held g.refusal g.state (refused_state (ladder_in held) q l d)

-- an outcome of the ladder, in C
abbrev pub in_c : GozhnerimLadder → Outcome → OutcomeInC
in_c held o = record { reply = reply_of held o.given; values = o.values; derivatives = o.derivatives }

abbrev pub all_in_c : GozhnerimLadder → List Outcome → List OutcomeInC
all_in_c held [] = []
all_in_c held (o ∷ os) = in_c held o ∷ all_in_c (in_c held o).reply.ladder os

-- what is due to a call of the ladder is, in C, what is due there
module _ (table : Request → List Float) (long : Long table) where
  pub due_in_c_law : (held : GozhnerimLadder) (s : Ladder) (q : Request) → Number (request q) → (l d : List Float) (m : Machine) (w : Verdict)
      → Accepts m q (length l) (length d) w → in_c held (due table s w (ask q l d)) ≡ due_in_c table held w (ask q l d)
  unfolding due state_due pair_due due_in_c reply_due reply_of handed_back count_of pair_or_nan ladder_out held_after refused_by effect
  due_in_c_law held s q f l d m (refuses number) a = rw (ne_eqb number 0 a.1, written_refuses number)
  due_in_c_law held s q f l d m (repeats n) a =
      let known = known_request q (length l) (length d) f.0 f.1 a.0 in
      rw (written_repeats n, table_answer q known table long, a.1, same_number q.function)
  due_in_c_law held s q f l d m (climbs i n) a =
      let known = known_request q (length l) (length d) f.0 f.1 a.0 in
      rw (written_climbs i n, table_answer q known table long, a.1, same_number q.function)
  due_in_c_law held s q f l d m (starts_over n) a =
      let known = known_request q (length l) (length d) f.0 f.1 a.0 in
      rw (written_starts_over n, table_answer q known table long, a.1, same_number q.function)

  one_due : (held : GozhnerimLadder) (s : Ladder) (m : Machine) (i : Inputs) → Number i → (l d : List Float)
      → let c : Call = record { inputs = i; values = l; derivatives = d } in
      in_c held (due table s (verdict m (fed c)) c) ≡ due_in_c table held (verdict m (fed c)) c
  one_due held s m (request q) f l d = due_in_c_law held s q f l d m (verdict m (asked q (length l) (length d))) (accepts m q (length l) (length d))

  -- ---- a list

  pub all_due : (cs : List Call) → Numbers cs → (held : GozhnerimLadder) (s : Ladder) (m : Machine)
      → all_in_c held (due_all table s (verdicts m (map fed cs)) cs) ≡ due_all_in_c table held (verdicts m (map fed cs)) cs
  unfolding due_all due_all_in_c
  all_due [] f held s m = rw (verdicts_nil m)
  all_due (c ∷ cs) f held s m =
      let w = verdict m (fed c) in
      let rest = due_all table (due table s w c).given.state (verdicts (next m (fed c)) (map fed cs)) cs in
      rw (verdicts_cons m (fed c) (map fed cs))
      (ap (λ (o : OutcomeInC). o ∷ all_in_c o.reply.ladder rest) (one_due held s m c.inputs f.0 c.values c.derivatives)
      ∙ ap (λ (os : List OutcomeInC). due_in_c table held w c ∷ os) (all_due cs f.1 (due_in_c table held w c).reply.ladder (due table s w c).given.state (next m (fed c))))

-- ---- the list of the ladder's turns, in C

called_in_c_law : (held : GozhnerimLadder) (i : Inputs) (l d : List Float) → called_in_c held i l d ≡ in_c held (called_by (ladder_in held) i l d)
unfolding called_in_c called_by requested_in_c
called_in_c_law held (request q) l d = refl

state_in_c_law : (held : GozhnerimLadder) (i : Inputs) (l d : List Float) → ladder_in (called_in_c held i l d).reply.ladder ≡ (called_by (ladder_in held) i l d).given.state
unfolding called_in_c called_by
state_in_c_law held (request q) l d = handed_on held q l d

pub turns_in_c : (held : GozhnerimLadder) (cs : List Call) → calls_in_c held cs ≡ all_in_c held (map left (turns (ladder_in held) cs))
unfolding calls_in_c turns
turns_in_c held [] = refl
turns_in_c held (c ∷ cs) =
    let o = called_in_c held c.inputs c.values c.derivatives in
    let next = (called_by (ladder_in held) c.inputs c.values c.derivatives).given.state in
    ap (λ (os : List OutcomeInC). o ∷ os) (turns_in_c o.reply.ladder cs ∙ ap (λ (s : Ladder). all_in_c o.reply.ladder (map left (turns s cs))) (state_in_c_law held c.inputs c.values c.derivatives))
    ∙ ap (λ (z : OutcomeInC). z ∷ all_in_c z.reply.ladder (map left (turns next cs))) (called_in_c_law held c.inputs c.values c.derivatives)

pub last_in_c_law : (held : GozhnerimLadder) (cs : List Call) → ladder_in (last_in_c held (calls_in_c held cs)) ≡ last_state (ladder_in held) (turns (ladder_in held) cs)
unfolding calls_in_c turns last_in_c last_state
last_in_c_law held [] = refl
last_in_c_law held (c ∷ cs) =
    let o = called_in_c held c.inputs c.values c.derivatives in
    last_in_c_law o.reply.ladder cs ∙ ap (λ (s : Ladder). last_state s (turns s cs)) (state_in_c_law held c.inputs c.values c.derivatives)

pub lent_in_c_law : (held : GozhnerimLadder) (cs : List Call) → lent_in_c cs (calls_in_c held cs) ≡ map lent (turns (ladder_in held) cs)
unfolding calls_in_c turns lent_in_c
lent_in_c_law held [] = refl
lent_in_c_law held (c ∷ cs) =
    let o = called_in_c held c.inputs c.values c.derivatives in
    let next = (called_by (ladder_in held) c.inputs c.values c.derivatives).given.state in
    ap (λ (z : OutcomeInC). record { call = c; values = z.values; derivatives = z.derivatives } ∷ lent_in_c cs (calls_in_c o.reply.ladder cs)) (called_in_c_law held c.inputs c.values c.derivatives)
    ∙ ap (λ (ls : List Lent). lent (record { call = c; left = called_by (ladder_in held) c.inputs c.values c.derivatives }) ∷ ls)
    (lent_in_c_law o.reply.ladder cs ∙ ap (λ (s : Ladder). map lent (turns s cs)) (state_in_c_law held c.inputs c.values c.derivatives))
