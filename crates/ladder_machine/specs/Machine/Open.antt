-- What each shut definition is, for the proofs of this crate. No other crate cites this module.
use Rattle.std.specs.Prelude.{◌≡◌, refl, List, [], ◌∷◌, ℕ, ◌+◌, ◌-◌, Bool, true, false, ◌&&◌, ◌||◌, cond, eqb, leb, ltb, Float}
use Rattle.std.proofs.Math.Option.{some, none}
use Rattle.std.specs.Bool.{beq}
use Rattle.std.specs.Float.{binary64}
use Rattle.std.specs.Float.Ieee.{to_bits}
use Rattle.floats.specs.Operations.{◌⊕◌, bits, whole}
use Rattle.order.specs.Order.{below, fraction_of, top_rung}
use Rattle.floats.specs.declared.Function.{Function}
use Rattle.floats.specs.declared.Function.TheVariants.{D, «V»}
use Rattle.branches.specs.Branches.{runs_forward}
use Rattle.table_refusals.specs.Refusals.{refusal_by}
use Rattle.ladder_machine.specs.declared.Request.{Request}
use Rattle.ladder_machine.specs.Machine.{Inputs, request, Feed, too_short, refusal, Machine, empty, holds}
use Rattle.ladder_machine.specs.Machine.{bits_of, holding, refuses, repeats, climbs, starts_over, written, stays}
use Rattle.ladder_machine.specs.Machine.{goes_on, starts_at, effect, same_function, same_rungs, may_climb, case_by}
use Rattle.ladder_machine.specs.Machine.{case_of, verdict_on, verdict, held_then, next, verdicts, after}

pub too_short_is : (n values derivatives : ℕ) → too_short n values derivatives ≡ (ltb values (n + 1) || ltb derivatives n)
unfolding too_short
too_short_is n values derivatives = refl

pub refusal_is : (q : Request) (values derivatives : ℕ)
    → refusal q values derivatives ≡ refusal_by q.v q.x (too_short (top_rung q.v) values derivatives)
unfolding refusal
refusal_is q values derivatives = refl

pub bits_of_is : (x : Float) → bits_of x ≡ to_bits binary64 x
unfolding bits_of
bits_of_is x = refl

pub holding_is : (q : Request) (n : ℕ)
    → holding q n ≡ holds q.function (below q.v) (bits_of q.x) (bits_of (fraction_of q.v)) n
unfolding holding
holding_is q n = refl

pub written_refuses : (k : ℕ) → written (refuses k) ≡ none
unfolding written
written_refuses k = refl

pub written_repeats : (n : ℕ) → written (repeats n) ≡ some 0
unfolding written
written_repeats n = refl

pub written_climbs : (m n : ℕ) → written (climbs m n) ≡ some (n - m)
unfolding written
written_climbs m n = refl

pub written_starts_over : (n : ℕ) → written (starts_over n) ≡ some (n + 1)
unfolding written
written_starts_over n = refl

pub same_D_D : same_function D D ≡ true
unfolding same_function
same_D_D = refl

pub same_D_V : same_function D «V» ≡ false
unfolding same_function
same_D_V = refl

pub same_V_D : same_function «V» D ≡ false
unfolding same_function
same_V_D = refl

pub same_V_V : same_function «V» «V» ≡ true
unfolding same_function
same_V_V = refl

pub same_rungs_is : (fn : Function) (s : Bool) (x f : ℕ) (fn' : Function) (s' : Bool) (x' f' : ℕ)
    → same_rungs fn s x f fn' s' x' f' ≡ (same_function fn fn' && beq s s' && eqb x x' && eqb f f')
unfolding same_rungs
same_rungs_is fn s x f fn' s' x' f' = refl

pub may_climb_is : (fn : Function) (s : Bool) (x f m n : ℕ)
    → may_climb fn s x f m n ≡ (ltb m n && leb 2 m && runs_forward fn s (bits x) (whole m ⊕ bits f))
unfolding may_climb
may_climb_is fn s x f m n = refl

pub case_by_empty : (fn' : Function) (s' : Bool) (x' f' n : ℕ) → case_by empty fn' s' x' f' n ≡ starts_over n
unfolding case_by
case_by_empty fn' s' x' f' n = refl

pub case_by_holds : (fn : Function) (s : Bool) (x f m : ℕ) (fn' : Function) (s' : Bool) (x' f' n : ℕ)
    → case_by (holds fn s x f m) fn' s' x' f' n
    ≡ cond (same_rungs fn s x f fn' s' x' f')
    (cond (eqb m n) (repeats n) (cond (may_climb fn s x f m n) (climbs m n) (starts_over n)))
    (starts_over n)
unfolding case_by
case_by_holds fn s x f m fn' s' x' f' n = refl

pub case_of_is : (m : Machine) (q : Request)
    → case_of m q ≡ case_by m q.function (below q.v) (bits_of q.x) (bits_of (fraction_of q.v)) (top_rung q.v)
unfolding case_of
case_of_is m q = refl

pub verdict_on_request : (m : Machine) (q : Request) (values derivatives : ℕ)
    → verdict_on m (request q) values derivatives
    ≡ cond (eqb (refusal q values derivatives) 0) (case_of m q) (refuses (refusal q values derivatives))
unfolding verdict_on
verdict_on_request m q values derivatives = refl

pub verdict_is : (m : Machine) (d : Feed) → verdict m d ≡ verdict_on m d.inputs d.values d.derivatives
unfolding verdict
verdict_is m d = refl

pub held_then_stays : (m : Machine) (i : Inputs) → held_then m stays i ≡ m
unfolding held_then
held_then_stays m i = refl

pub held_then_goes_on : (m : Machine) (k n : ℕ) (q : Request) → held_then m (goes_on k n) (request q) ≡ holding q n
unfolding held_then
held_then_goes_on m k n q = refl

pub held_then_starts_at : (m : Machine) (n : ℕ) (q : Request) → held_then m (starts_at n) (request q) ≡ holding q n
unfolding held_then
held_then_starts_at m n q = refl

pub next_is : (m : Machine) (d : Feed) → next m d ≡ held_then m (effect (verdict m d)) d.inputs
unfolding next
next_is m d = refl

pub verdicts_nil : (m : Machine) → verdicts m [] ≡ []
unfolding verdicts
verdicts_nil m = refl

pub verdicts_cons : (m : Machine) (d : Feed) (ds : List Feed)
    → verdicts m (d ∷ ds) ≡ (verdict m d ∷ verdicts (next m d) ds)
unfolding verdicts
verdicts_cons m d ds = refl

pub after_nil : (m : Machine) → after m [] ≡ m
unfolding after
after_nil m = refl

pub after_cons : (m : Machine) (d : Feed) (ds : List Feed) → after m (d ∷ ds) ≡ after (next m d) ds
unfolding after
after_cons m d ds = refl
