-- A state whose n is above 1000 comes in from C with n 0. Both count as empty, so that a request on either gives and leaves the same.
use Rattle.std.proofs.Common.{◌≡◌, refl, sym, ◌∙◌, Bool, true, false, true≢false, cond, List, ◌⊎◌, inl, inr, ◌<◌, length, leb, leb-false, ne_eqb, Float}
use Rattle.ladder_machine.specs.declared.Request.{Request}
use Rattle.ladder_machine.specs.Machine.{asked, Verdict, refuses, repeats, climbs, starts_over, refused_by, effect, verdict}
use Rattle.ladder_machine.specs.Held.{counts_empty, machine_of}
use Rattle.ladder_machine.proofs.Laws.{no_rung_held, by_reason, machine_empty, Means, verdict_means}
use Rattle.ladder_states.specs.declared.Ladder.{Ladder}
use Rattle.ladder_states.specs.States.{state_of, sequence_in, held_in}
use Rattle.ladder.specs.Ladder.{given_on, pair_then, outcome_by, requested}
use Rattle.ladder.specs.Ladder.Open.{state_starts, values_stay, values_start, derivatives_stay, derivatives_start, outcome_by_law, requested_is}
use Rattle.gozhnerim_structs.specs.declared.GozhnerimLadder.{GozhnerimLadder}
use Rattle.gozhnerim_structs.specs.Ladders.{ladder_in, handed_back, reply_of}
use Rattle.gozhnerim_lists.specs.Requests.{requested_in_c}
use Rattle.gozhnerim_lists.proofs.Lists.{in_c}

-- ---- what comes in is the state, or both count as empty

abbrev pub taken_in : Ladder → Ladder
taken_in s = state_of (sequence_in s) (cond (leb s.held.n 1000) s.held.n 0) s.values.low s.values.high

abbrev pub SameOrEmpty : Ladder → Ladder → Type 0
SameOrEmpty s' s = (s' ≡ s) ⊎ ((counts_empty (held_in s') ≡ true) × (counts_empty (held_in s) ≡ true))

pub comes_in : (s : Ladder) → SameOrEmpty (taken_in s) s
comes_in s = go (leb s.held.n 1000) (leb-false s.held.n 1000)
  where
    go : (b : Bool) → (b ≡ false → 1000 < s.held.n) → SameOrEmpty (state_of (sequence_in s) (cond b s.held.n 0) s.values.low s.values.high) s
    go true above = inl refl
    go false above = inr (no_rung_held _ refl, by_reason (held_in s) (inr (inl (above refl))))

-- ---- a request

module _ (held : GozhnerimLadder) (s s' : Ladder) (q : Request) (l d : List Float) where
  by_verdict : (w : Verdict) → counts_empty (held_in s) ≡ true → Means (held_in s) q (length l) (length d) w
      → in_c held (outcome_by w s' q l d) ≡ in_c held (outcome_by w s q l d)
  unfolding reply_of handed_back given_on refused_by effect pair_then
  by_verdict (refuses k) e m =
      rw (outcome_by_law s q l d (refuses k), outcome_by_law s' q l d (refuses k), values_stay s q l, values_stay s' q l, derivatives_stay s q d, derivatives_stay s' q d, ne_eqb k 0 m.1)
  by_verdict (repeats n) e m = absurd (true≢false (sym e ∙ m.2))
  by_verdict (climbs i n) e m = absurd (true≢false (sym e ∙ m.2))
  by_verdict (starts_over n) e m =
      rw (outcome_by_law s q l d (starts_over n), outcome_by_law s' q l d (starts_over n), state_starts s q n, state_starts s' q n, values_start s q l n, values_start s' q l n, derivatives_start s q d n, derivatives_start s' q d n)

  same_in_c : SameOrEmpty s' s → in_c held (requested s' q l d) ≡ in_c held (requested s q l d)
  same_in_c (inl e) = rw e
  same_in_c (inr e) =
      let same : machine_of (held_in s') ≡ machine_of (held_in s) = machine_empty (held_in s') e.0 ∙ sym (machine_empty (held_in s) e.1) in
      rw (requested_is s' q l d, same, requested_is s q l d)
      (by_verdict (verdict (machine_of (held_in s)) (asked q (length l) (length d))) e.1 (verdict_means (held_in s) q (length l) (length d)))

-- what a request gives and leaves on what comes in
pub taken_in_law : (held : GozhnerimLadder) (q : Request) (l d : List Float)
    → in_c held (requested (taken_in (ladder_in held)) q l d) ≡ requested_in_c held q l d
unfolding requested_in_c
taken_in_law held q l d = same_in_c held (ladder_in held) (taken_in (ladder_in held)) q l d (comes_in (ladder_in held))
