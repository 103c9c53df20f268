-- Cases at the machine's limits, proved by computing them: one list, and one theorem over it.
use Rattle.std.proofs.Common.{◌≡◌, refl, true, false, List, [], ◌∷◌, map, ℕ, Float}
use Rattle.floats.specs.declared.Function.TheVariants.{D, «V»}
use Rattle.branches.specs.Branches.{runs_forward}
use Rattle.branches.proofs.Laws.{D_forward, V_forward, forward_runs}
use Rattle.ladder_machine.specs.Machine.{Machine, empty, holds, Verdict, repeats, climbs, starts_over, Effect, goes_on, starts_at, effect, case_by}
use Rattle.ladder_machine.specs.Machine.Open.{same_D_D, same_V_D, same_V_V, same_rungs_is, may_climb_is, case_by_empty, case_by_holds}

-- D from order 0 on at x = 0 and f = 0, asked up to n
abbrev pub case_at : Machine → ℕ → Verdict
case_at m n = case_by m D false 0 0 n

-- a case, what it is, and what it does to the rungs held
abbrev pub examples : List (Verdict × Verdict × Effect)
examples =
    (case_at empty 3, starts_over 3, starts_at 3) ∷
    -- a climb goes on from 2 or more, to a higher n
    (case_at (holds D false 0 0 1) 3, starts_over 3, starts_at 3) ∷
    (case_at (holds D false 0 0 2) 3, climbs 2 3, goes_on 2 3) ∷
    (case_at (holds D false 0 0 3) 3, repeats 3, goes_on 3 3) ∷
    (case_at (holds D false 0 0 4) 3, starts_over 3, starts_at 3) ∷
    -- a repeat is one at n = 1 too
    (case_at (holds D false 0 0 1) 1, repeats 1, goes_on 1 1) ∷
    -- another function, side, argument or fraction
    (case_at (holds «V» false 0 0 3) 3, starts_over 3, starts_at 3) ∷
    (case_at (holds D true 0 0 3) 3, starts_over 3, starts_at 3) ∷
    (case_at (holds D false 1 0 3) 3, starts_over 3, starts_at 3) ∷
    (case_at (holds D false 0 1 3) 3, starts_over 3, starts_at 3) ∷
    -- D and V at other bits of argument and fraction
    (case_by (holds D false 5 7 2) D false 5 7 9, climbs 2 9, goes_on 2 9) ∷
    (case_by (holds «V» true 5 7 4) «V» true 5 7 6, climbs 4 6, goes_on 4 6) ∷
    (case_by (holds «V» true 5 7 4) «V» true 5 7 4, repeats 4, goes_on 4 4) ∷
    []

abbrev pub computed : List (Verdict × Effect)
computed = map (λ (e : Verdict × Verdict × Effect). (e.0, effect e.0)) examples

abbrev pub values : List (Verdict × Effect)
values = map (λ (e : Verdict × Verdict × Effect). (e.1, e.2)) examples

forward_d : (x u : Float) → runs_forward D false x u ≡ true
forward_d x u = forward_runs D false x u (D_forward x u)

forward_v : (x u : Float) → runs_forward «V» true x u ≡ true
forward_v x u = forward_runs «V» true x u (V_forward x u)

pub examples_hold : computed ≡ values
unfolding effect
examples_hold = simp (case_by_empty, case_by_holds, same_rungs_is, same_D_D, same_V_D, same_V_V, may_climb_is, forward_d, forward_v) refl
