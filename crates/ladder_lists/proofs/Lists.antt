-- DEMAND 3: the list by induction, over what is held between two calls; and any state, by the definition's cases.
use Rattle.std.proofs.Common.{◌≡◌, refl, sym, ap, ◌∙◌, true, List, [], ◌∷◌, map, Float}
use Rattle.std.proofs.Math.Option.{Option, some, none}
use Rattle.ladder_machine.specs.declared.Request.{Request}
use Rattle.ladder_machine.specs.Machine.{Inputs, request, Effect, effect, verdict, next, verdicts, after}
use Rattle.ladder_machine.specs.Held.{counts_empty, machine_of}
use Rattle.ladder_machine.proofs.Laws.{holding_is, verdicts_nil, verdicts_cons, after_nil, after_cons}
use Rattle.ladder_states.specs.declared.Ladder.{Ladder}
use Rattle.ladder_states.specs.States.{held_in}
use Rattle.ladder_states.proofs.Laws.{nothing_held}
use Rattle.ladder_lists.specs.Demand3.{Call, ask, fed, called_by, called, turns, left, Number, Numbers, Long, due, due_all, last_state, lent, Handed, Anew, HandedOn, later_request, last_accepted, last_values, last_derivatives, Rungs, Demand3}
use Rattle.ladder_lists.proofs.Turns.{Finished, machine_at, state_at, KnownAt, request_at, later, later_request_law, machine_at_law, does, call_due, call_known, call_state, call_machine}
use Rattle.ladder_lists.proofs.AnyState.{state_right}
use Rattle.ladder_lists.proofs.Rungs.{RungsAt, rungs_then, value_rungs, derivative_rungs}

module _ (table : Request → List Float) (long : Long table) (s₀ : Ladder) (nothing : counts_empty (held_in s₀) ≡ true) where
  abbrev effect_at : Option Finished → Call → Effect
  effect_at o c = effect (verdict (machine_at o) (fed c))

  abbrev after_call : Option Finished → Call → Option Finished
  after_call o c = later o (effect_at o c) c.inputs

  -- ---- one call of any kind, from what is held

  pub record CallRight (o : Option Finished) (c : Call) : Type 1 where
    pub due_is : called (state_at s₀ o) c ≡ due table (state_at s₀ o) (verdict (machine_at o) (fed c)) c
    pub known : KnownAt (after_call o c)
    pub state : (called (state_at s₀ o) c).given.state ≡ state_at s₀ (after_call o c)
    pub machine : next (machine_at o) (fed c) ≡ machine_at (after_call o c)
    pub rungs : (so_far : Type 0) (vs ds : List Float) → (so_far → RungsAt table long o vs ds) → Anew so_far (Handed vs ds c) (effect_at o c)
        → RungsAt table long (after_call o c) (called (state_at s₀ o) c).values (called (state_at s₀ o) c).derivatives

  call_right : (o : Option Finished) → KnownAt o → (i : Inputs) → Number i → (l d : List Float) → CallRight o (record { inputs = i; values = l; derivatives = d })
  unfolding called_by due
  call_right o k (request q) f l d =
      let is = call_due table long q l d f.0 f.1 s₀ nothing o k in
      record {
        due_is = is;
        known = call_known table long q l d f.0 f.1 s₀ nothing o k;
        state = call_state table long q l d f.0 f.1 s₀ nothing o k;
        machine = call_machine table long q l d f.0 f.1 s₀ nothing o k;
        rungs = λ so_far vs ds r h. rw is (rungs_then table long q l d f.0 f.1 s₀ nothing o k (effect_at o (ask q l d)) (does table long q l d f.0 f.1 s₀ nothing o k) so_far vs ds r h);
      }

  call : (o : Option Finished) → KnownAt o → (c : Call) → Number c.inputs → CallRight o c
  call o k c f = call_right o k c.inputs f c.values c.derivatives

  -- ---- the calls

  all_calls : (cs : List Call) → Numbers cs → (o : Option Finished) → KnownAt o
      → map left (turns (state_at s₀ o) cs) ≡ due_all table (state_at s₀ o) (verdicts (machine_at o) (map fed cs)) cs
  unfolding turns due_all
  all_calls [] f o k = rw (verdicts_nil (machine_at o))
  all_calls (c ∷ cs) f o k =
      let r = call o k c f.0 in
      let rest = all_calls cs f.1 (after_call o c) r.known in
      rw (verdicts_cons (machine_at o) (fed c) (map fed cs), ← r.due_is, r.machine, r.state, rest)

  -- ---- the machine

  all_machine : (cs : List Call) → Numbers cs → (o : Option Finished) → KnownAt o
      → machine_of (held_in (last_state (state_at s₀ o) (turns (state_at s₀ o) cs))) ≡ after (machine_at o) (map fed cs)
  unfolding turns last_state
  all_machine [] f o k = machine_at_law s₀ nothing o k ∙ sym (after_nil (machine_at o))
  all_machine (c ∷ cs) f o k =
      let r = call o k c f.0 in
      rw (after_cons (machine_at o) (fed c) (map fed cs), r.machine, r.state) (all_machine cs f.1 (after_call o c) r.known)

  -- ---- the rungs after the list

  rungs_end : (o : Option Finished) → KnownAt o → (l d : List Float) → RungsAt table long o l d → Rungs table (machine_at o) (request_at o) l d
  rungs_end none k l d r = tt
  rungs_end (some p) k l d r = rw (holding_is p.request p.n) (value_rungs table long p k l d r, derivative_rungs table long p k l d r)

  all_rungs : (cs : List Call) → Numbers cs → (o : Option Finished) → KnownAt o → (a : Option Request) → request_at o ≡ a → (so_far : Type 0) (vs ds : List Float)
      → (so_far → RungsAt table long o vs ds)
      → HandedOn so_far vs ds (verdicts (machine_at o) (map fed cs)) (map lent (turns (state_at s₀ o) cs))
      → Rungs table (after (machine_at o) (map fed cs)) (last_accepted a (verdicts (machine_at o) (map fed cs)) cs) (last_values vs (map lent (turns (state_at s₀ o) cs))) (last_derivatives ds (map lent (turns (state_at s₀ o) cs)))
  unfolding turns last_accepted last_values last_derivatives
  all_rungs [] f o k a e so_far vs ds r = rw (verdicts_nil (machine_at o), after_nil (machine_at o), ← e) (λ h. rungs_end o k vs ds (r h))
  all_rungs (c ∷ cs) f o k a e so_far vs ds r =
      let t = call o k c f.0 in
      let made = called (state_at s₀ o) c in
      let asked = later_request_law o (effect_at o c) c.inputs ∙ ap (λ (z : Option Request). later_request z (effect_at o c) c.inputs) e in
      rw (verdicts_cons (machine_at o) (fed c) (map fed cs), after_cons (machine_at o) (fed c) (map fed cs), t.machine, t.state)
      (all_rungs cs f.1 (after_call o c) t.known (later_request a (effect_at o c) c.inputs) asked (Anew so_far (Handed vs ds c) (effect_at o c)) made.values made.derivatives
      (t.rungs so_far vs ds r))

  -- ---- what is held after the list

  pub record HeldLast (o : Option Finished) (a : Option Request) (cs : List Call) : Type 0 where
    pub finished : Option Finished
    pub known : KnownAt finished
    pub state : last_state (state_at s₀ o) (turns (state_at s₀ o) cs) ≡ state_at s₀ finished
    pub machine : after (machine_at o) (map fed cs) ≡ machine_at finished
    pub request : last_accepted a (verdicts (machine_at o) (map fed cs)) cs ≡ request_at finished

  pub held_last : (cs : List Call) → Numbers cs → (o : Option Finished) → KnownAt o → (a : Option Request) → request_at o ≡ a → HeldLast o a cs
  unfolding turns last_state last_accepted
  held_last [] f o k a e =
      record { finished = o; known = k; state = refl; machine = after_nil (machine_at o); request = rw (verdicts_nil (machine_at o)) (sym e) }
  held_last (c ∷ cs) f o k a e =
      let r = call o k c f.0 in
      let asked = later_request_law o (effect_at o c) c.inputs ∙ ap (λ (z : Option Request). later_request z (effect_at o c) c.inputs) e in
      let rest = held_last cs f.1 (after_call o c) r.known (later_request a (effect_at o c) c.inputs) asked in
      record {
        finished = rest.finished;
        known = rest.known;
        state = rw r.state rest.state;
        machine = rw (after_cons (machine_at o) (fed c) (map fed cs), r.machine) rest.machine;
        request = rw (verdicts_cons (machine_at o) (fed c) (map fed cs), r.machine) rest.request;
      }

-- ---- DEMAND 3

pub demand3 : Demand3
demand3 = record {
  begins = nothing_held;
  lists = λ table long s nothing cs numbers. record {
    calls = all_calls table long s nothing cs numbers none tt;
    machine = all_machine table long s nothing cs numbers none tt;
    rungs = all_rungs table long s nothing cs numbers none tt none refl Unit [] [] (λ _. tt);
  };
  any_state = state_right;
}
