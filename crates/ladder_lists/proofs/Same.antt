-- The rungs of the request held, and a request that goes on from them: for the same sequence, at the same n, or at a higher one on a forward branch. The state
-- comes to hold the new request.
use Rattle.std.proofs.Common.{◌≡◌, sym, ap, ◌∙◌, true, ◌⊎◌, inl, inr, ℕ, ◌+◌, ◌-◌, ◌≤◌, ◌<◌, eq-or-lt_of_le, arith, T}
use Rattle.std.specs.Float.{binary64}
use Rattle.std.specs.Float.Ieee.{fits}
use Rattle.floats.specs.Operations.{◌⊕◌, whole}
use Rattle.order.specs.Order.{below, shifted, fraction_of, top_rung, num}
use Rattle.order.specs.Facts.{Split}
use Rattle.branches.specs.declared.Branch.TheVariants.{Forward}
use Rattle.branches.specs.Branches.{branch_of, runs_forward}
use Rattle.branches.proofs.Laws.{forward_branch, forward_held, forward_higher}
use Rattle.order.specs.declared.Sequence.{Sequence}
use Rattle.rungs.specs.Rungs.{rung}
use Rattle.rungs.specs.ColumnValues.{value}
use Rattle.rungs.proofs.Laws.{rungs_on, value_forward}
use Rattle.tables.specs.Tables.{sequence_of, value_of, derivative_of}
use Rattle.tables.proofs.Calls.{value_of_is}
use Rattle.ladder_machine.specs.declared.Request.{Request}
use Rattle.ladder_machine.specs.Machine.{bits_of, same_rungs, may_climb}
use Rattle.ladder_machine.proofs.Laws.{same_parts, climb_parts}
use Rattle.ladder_climb.specs.Climb.Open.{carried_value_is, carried_derivative_is}
use Rattle.ladder_climb.proofs.Climbs.{carried_low, carried_high}
use Rattle.ladder_states.specs.declared.Ladder.{Ladder}
use Rattle.ladder_states.specs.States.{state_of, sequence_in}
use Rattle.ladder.specs.Ladder.{state_for, value_from, derivative_from, climbed_to}
use Rattle.ladder.specs.Ladder.Open.{state_for_is, climbed_to_is}
use Rattle.ladder_lists.proofs.Held.{Known, derivative_by, facts}

-- p is held, with its rungs up to n finished, and q is asked for
module _ (p q : Request) (known_p : Known p) (known_q : Known q)
    (same : same_rungs p.function (below p.v) (bits_of p.x) (bits_of (fraction_of p.v)) q.function (below q.v) (bits_of q.x) (bits_of (fraction_of q.v)) ≡ true)
    (m : ℕ) (all : m ≡ top_rung p.v) where
  parts : (p.function ≡ q.function) × (below p.v ≡ below q.v) × (p.x ≡ q.x) × (fraction_of p.v ≡ fraction_of q.v)
  parts =
      same_parts p.function (below p.v) p.x (fraction_of p.v) q.function (below q.v) q.x (fraction_of q.v)
      known_p.fit (facts p known_p).f_fits known_q.fit (facts q known_q).f_fits same

  abbrev r : Sequence
  r = sequence_of q.function q.v q.x

  abbrev held : Ladder
  held = state_for p m

  one_sequence : sequence_of p.function p.v p.x ≡ r
  one_sequence = rw (parts.0, parts.1, parts.2, parts.3)

  held_values : value_of p.function p.v p.x ≡ value r (shifted p.v) (top_rung p.v)
  held_values = value_of_is p.function p.v p.x ∙ rw one_sequence

  held_state : held ≡ state_of r m (value_of p.function p.v p.x (m - 1)) (value_of p.function p.v p.x m)
  held_state = state_for_is p m ∙ rw one_sequence

  held_n : held.held.n ≡ m
  held_n = rw held_state

  held_low : value_from held (m - 1) ≡ value_of p.function p.v p.x (m - 1)
  held_low =
      ap (λ (k : ℕ). value_from held (k - 1)) (sym held_n)
      ∙ carried_low (sequence_in held) held.held.n held.values.low held.values.high (omega (arith, held_n, all, (facts p known_p).least))
      ∙ ap (λ (s : Ladder). s.values.low) held_state

  held_high : value_from held m ≡ value_of p.function p.v p.x m
  held_high = ap (value_from held) (sym held_n) ∙ carried_high (sequence_in held) held.held.n held.values.low held.values.high ∙ ap (λ (s : Ladder). s.values.high) held_state

  -- ---- a climb: both requests have the rungs of the forward branch

  module _ (climb : may_climb p.function (below p.v) (bits_of p.x) (bits_of (fraction_of p.v)) m (top_rung q.v) ≡ true) where
    rise : (m < top_rung q.v) × (2 ≤ m)
        × (T (fits binary64 p.x) → T (fits binary64 (fraction_of p.v)) → runs_forward p.function (below p.v) p.x (whole m ⊕ fraction_of p.v) ≡ true)
    rise = climb_parts p.function (below p.v) p.x (fraction_of p.v) m (top_rung q.v) climb

    lower : Split (below q.v) (shifted p.v) (fraction_of q.v) (top_rung p.v) (num p.v)
    lower = rw (parts.1, parts.3) at (facts p known_p)

    forward : branch_of q.function (below q.v) q.x (shifted p.v) ≡ Forward
    forward =
        let forth = rw (parts.0, parts.1, parts.2, parts.3, all) at (rise.2 known_p.fit (facts p known_p).f_fits) in
        forward_branch q.function (below q.v) q.x (shifted p.v)
        (sym (forward_held q.function q.x lower) ∙ forth)

    held_rungs : value_of p.function p.v p.x ≡ rung r
    held_rungs = held_values ∙ value_forward r (shifted p.v) (top_rung p.v) forward

    higher_rungs : value_of q.function q.v q.x ≡ rung r
    higher_rungs =
        value_of_is q.function q.v q.x
        ∙ value_forward r (shifted q.v) (top_rung q.v) (forward_higher q.function q.x lower (facts q known_q) (omega (arith, rise.0, all)) forward)

    climbed_rung : (k : ℕ) → m ≤ k + 1 → value_from held k ≡ rung r k
    climbed_rung k h =
        let e : m - 1 + (k + 1 - m) ≡ k = omega (arith, rise.1) in
        carried_value_is (sequence_in held) held.held.n held.values.low held.values.high k ∙ rw (held_state, held_rungs) (rungs_on r m rise.1 (k + 1 - m)) ∙ ap (rung r) e

  -- ---- at the same n u is the same too

  same_shift : m ≡ top_rung q.v → shifted p.v ≡ shifted q.v
  same_shift e = sym (facts p known_p).joined ∙ rw (parts.1, ← all, e, parts.3) (facts q known_q).joined

  -- ---- both

  module _ (on : (m ≡ top_rung q.v) ⊎ (may_climb p.function (below p.v) (bits_of p.x) (bits_of (fraction_of p.v)) m (top_rung q.v) ≡ true)) where
    pub not_below : m ≤ top_rung q.v
    not_below = go on
      where
        go : (m ≡ top_rung q.v) ⊎ (may_climb p.function (below p.v) (bits_of p.x) (bits_of (fraction_of p.v)) m (top_rung q.v) ≡ true) → m ≤ top_rung q.v
        go (inl e) = omega arith
        go (inr climb) = omega (arith, (rise climb).0)

    -- THE RUNGS HELD are the new request's too
    pub same_value : (k : ℕ) → value_of p.function p.v p.x k ≡ value_of q.function q.v q.x k
    same_value k = go on
      where
        go : (m ≡ top_rung q.v) ⊎ (may_climb p.function (below p.v) (bits_of p.x) (bits_of (fraction_of p.v)) m (top_rung q.v) ≡ true)
            → value_of p.function p.v p.x k ≡ value_of q.function q.v q.x k
        go (inl e) = rw (held_values, value_of_is q.function q.v q.x, same_shift e, ← all, e)
        go (inr climb) = rw (held_rungs climb, higher_rungs climb)

    pub same_derivative : (k : ℕ) → derivative_of p.function p.v p.x k ≡ derivative_of q.function q.v q.x k
    same_derivative k = rw (derivative_by p k, derivative_by q k, same_value k, same_value (k + 1), parts.0, parts.1, parts.2, parts.3)

    -- WHAT IS CARRIED ON is the new request's
    pub carried_value_law : (k : ℕ) → m ≤ k + 1 → k ≤ top_rung q.v → value_from held k ≡ value_of q.function q.v q.x k
    carried_value_law k h b = go on
      where
        -- at the same n there are two values, those held
        either : (m ≡ k + 1) ⊎ (m < k + 1) → m ≡ top_rung q.v → value_from held k ≡ value_of p.function p.v p.x k
        either (inl a) e = let i : k ≡ m - 1 = omega arith in rw i held_low
        either (inr a) e = let i : k ≡ m = omega arith in rw i held_high

        go : (m ≡ top_rung q.v) ⊎ (may_climb p.function (below p.v) (bits_of p.x) (bits_of (fraction_of p.v)) m (top_rung q.v) ≡ true)
            → value_from held k ≡ value_of q.function q.v q.x k
        go (inl e) = either (eq-or-lt_of_le h) e ∙ same_value k
        go (inr climb) = climbed_rung climb k h ∙ rw (higher_rungs climb)

    pub carried_derivative_law : (k : ℕ) → m ≤ k → k < top_rung q.v → derivative_from held k ≡ derivative_of q.function q.v q.x k
    carried_derivative_law k h b =
        carried_derivative_is (sequence_in held) held.held.n held.values.low held.values.high k
        ∙ rw (carried_value_law k (omega arith) (omega arith), carried_value_law (k + 1) (omega arith) (omega arith), held_state) (sym (derivative_by q k))

    pub carried_state : climbed_to held (top_rung q.v) ≡ state_for q (top_rung q.v)
    carried_state =
        climbed_to_is held (top_rung q.v)
        ∙ rw (carried_value_law (top_rung q.v - 1) (omega (arith, not_below, (facts q known_q).least)) (omega arith), carried_value_law (top_rung q.v) (omega (arith, not_below)) (omega arith), held_state)
        (sym (state_for_is q (top_rung q.v)))
