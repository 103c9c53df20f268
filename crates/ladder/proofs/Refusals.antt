-- A refused request hands back the state that it was given.
use Rattle.std.proofs.Common.{◌≡◌, false, true≢false, List, eqb, length, Float}
use Rattle.ladder_machine.specs.declared.Request.{Request}
use Rattle.ladder_machine.specs.Machine.{asked, Verdict, refuses, repeats, climbs, starts_over, refused_by, effect, verdict}
use Rattle.ladder_machine.specs.Held.{machine_of}
use Rattle.ladder_states.specs.declared.Ladder.{Ladder}
use Rattle.ladder_states.specs.States.{held_in}
use Rattle.ladder.specs.Ladder.{given_on, state_then, requested}
use Rattle.ladder.specs.Ladder.Open.{state_stays, outcome_by_law, requested_is}

module _ (s : Ladder) (q : Request) (l d : List Float) where
  by_verdict : (w : Verdict) → eqb (refused_by w) 0 ≡ false → state_then (effect w) s q ≡ s
  unfolding refused_by effect
  by_verdict (refuses number) e = state_stays s q
  by_verdict (repeats n) e = absurd (true≢false e)
  by_verdict (climbs m n) e = absurd (true≢false e)
  by_verdict (starts_over n) e = absurd (true≢false e)

  pub refused_state : eqb (requested s q l d).given.refusal 0 ≡ false → (requested s q l d).given.state ≡ s
  unfolding given_on
  refused_state =
      rw (requested_is s q l d, outcome_by_law s q l d _) (by_verdict (verdict (machine_of (held_in s)) (asked q (length l) (length d))))
