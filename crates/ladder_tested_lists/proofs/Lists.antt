-- #102: the reader after every list, by what is held after it, and on any state.
use Rattle.std.proofs.Common.{◌≡◌, refl, sym, ap, ◌∙◌, List, ◌↔◌, ℕ, ◌+◌, ◌≤◌, ◌<◌, true, false, true≢false, length, replicate, drop, map, ◌*◌, le_of_eq, Ok, Err, get_or, get_or-take, get_or-drop, T, arith, Float}
use Rattle.std.proofs.Math.Option.{Option, some, none}
use Rattle.std.specs.Borrow.{Bor}
use Rattle.std.specs.Float.{nan, binary64}
use Rattle.std.specs.Float.Ieee.{fits}
use Rattle.order.specs.Order.{below, shifted, top_rung, num}
use Rattle.order.specs.declared.Sequence.{Sequence}
use Rattle.branches.proofs.Laws.{forward_branch, forward_held}
use Rattle.rungs.specs.Rungs.{rung}
use Rattle.rungs.proofs.Laws.{value_forward}
use Rattle.slots.specs.Slots.{slot}
use Rattle.tables.specs.Tables.{sequence_of, value_of}
use Rattle.tables.proofs.Calls.{value_of_is}
use Rattle.ladder_machine.specs.declared.Held.{Held}
use Rattle.ladder_machine.specs.declared.Request.{Request}
use Rattle.ladder_machine.specs.Machine.{empty, holding, after as machine_after, verdicts, too_short}
use Rattle.ladder_machine.specs.Held.{counts_empty, held_forward}
use Rattle.ladder_machine.proofs.Laws.{not_empty, by_reason, machine_empty, held_forward_is, holding_is, room}
use Rattle.ladder_reader.specs.declared.Column.{Column}
use Rattle.ladder_states.specs.declared.Ladder.{Ladder}
use Rattle.ladder_states.specs.States.{held_in}
use Rattle.ladder.specs.Ladder.{state_for}
use Rattle.ladder.specs.Ladder.Open.{state_for_is}
use Rattle.ladder_tested_reader.specs.Tested.{holds_rungs, tested, tested_part}
use Rattle.ladder_tested_reader.proofs.Tests.{part_given, no_part}
use Rattle.ladder_lists.specs.Demand3.{Call, fed, Numbers, Long, last_accepted, tabled, tabled_value, tabled_derivative, Rungs}
use Rattle.ladder_lists.proofs.Held.{derivative_by, facts, table_value, table_derivative}
use Rattle.ladder_lists.proofs.Turns.{Finished, machine_at, state_at, KnownAt, request_at, machine_at_law}
use Rattle.ladder_lists.proofs.Rungs.{RungsIn, value_rungs, derivative_rungs}
use Rattle.ladder_lists.proofs.Lists.{HeldLast, held_last}
use Rattle.ladder_states.specs.States.{empty_state}
use Rattle.ladder_states.proofs.Laws.{nothing_held}
use Rattle.std.proofs.Math.ListN.{length-replicate}
use Rattle.floats.specs.Operations.{f0}
use Rattle.answer.specs.Answer.{number, refusal_of}
use Rattle.answer.specs.declared.Refusal.TheVariants.{NotForward as NotForwardRefusal, TableTooShort, RungDiffers}
use Rattle.ladder_tested_lists.specs.TestedLists.{NotForward, top, TooShort, named, F64s, Reads, ReadsAfter, HoldsLast, Carried, ReadsAny, TestedReader}
use Rattle.ladder_tested_lists.proofs.ByTests.{reads_machine, reads_held}
use Rattle.ladder_tested_lists.proofs.Slots.{each_slot, as_carried, formula, OnRungs, as_rungs}

-- ---- the rungs of the table call for a request whose branch runs forward, in two tables that have room for them

module _ (table : Request → List Float) (long : Long table) (p : Finished) (k : KnownAt (some p)) where
  abbrev q : Request
  q = p.request

  abbrev r : Sequence
  r = sequence_of q.function q.v q.x

  abbrev h : Held
  h = record { sequence = r; n = p.n }

  held : held_in (state_for q p.n) ≡ h
  held = ap held_in (state_for_is q p.n)

  least : 1 ≤ p.n
  least = omega (arith, k.1, (facts q k.0).least)

  module _ (forward : held_forward h ≡ true) where
    forward_rungs : value_of q.function q.v q.x ≡ rung r
    forward_rungs =
        let f = rw k.1 at (sym (held_forward_is h) ∙ forward) in
        value_of_is q.function q.v q.x
        ∙ value_forward r (shifted q.v) (top_rung q.v) (forward_branch q.function (below q.v) q.x (shifted q.v) (sym (forward_held q.function q.x (facts q k.0)) ∙ f))

    table_rung : (i : ℕ) → i ≤ p.n → tabled_value table q i ≡ rung r i
    table_rung i b = table_value q k.0 table long i (omega (arith, k.1, b)) ∙ ap (λ (g : ℕ → Float). g i) forward_rungs

    table_formula : (i : ℕ) → i < p.n → tabled_derivative table q i ≡ formula r i
    table_formula i b = table_derivative q k.0 table long i (omega (arith, k.1, b)) ∙ derivative_by q i ∙ rw forward_rungs

    module _ (values derivatives : List Float) (a : p.n < length values) (b : p.n ≤ length derivatives) where
      as_table : OnRungs r p.n values derivatives least ↔ Rungs table (holding q p.n) (some q) values derivatives
      unfolding slot tabled_value tabled_derivative
      as_table = (there, back)
        where
          there : OnRungs r p.n values derivatives least → Rungs table (holding q p.n) (some q) values derivatives
          there e =
              let i : RungsIn table long p values derivatives =
              record {
                room = a;
                derivative_room = b;
                values = λ i c. e.values_are i c ∙ sym (table_rung i c);
                derivatives = λ i c. e.derivatives_are i c ∙ sym (table_formula i c);
              } in
              rw (holding_is q p.n) (value_rungs table long p k values derivatives i, derivative_rungs table long p k values derivatives i)

          back : Rungs table (holding q p.n) (some q) values derivatives → OnRungs r p.n values derivatives least
          back e =
              let n = p.n in
              let t = tabled table q in
              let m = num q.v in
              let w = rw (holding_is q p.n) at e in
              record {
                values_are = λ i c.
                    sym (get_or-take (n + 1) values i nan (omega (arith, c)))
                    ∙ ap (λ (l : List Float). get_or l i nan) w.0
                    ∙ get_or-take (n + 1) t i nan (omega (arith, c))
                    ∙ table_rung i c;
                derivatives_are = λ i c.
                    sym (get_or-take n derivatives i nan c)
                    ∙ ap (λ (l : List Float). get_or l i nan) w.1
                    ∙ get_or-take n (drop m t) i nan c
                    ∙ get_or-drop m t i nan
                    ∙ table_formula i c;
              }

-- ---- after a list

module _ (table : Request → List Float) (long : Long table) (s : Ladder) (nothing : counts_empty (held_in s) ≡ true)
    (values derivatives : List Float) (a : F64s values) (b : F64s derivatives) (which : Column) where
  after : (o : Option Finished) → KnownAt o
      → Reads (NotForward (machine_at o)) (TooShort (top (machine_at o)) values derivatives) (Rungs table (machine_at o) (request_at o) values derivatives)
      (named which (top (machine_at o)) values derivatives)
      (tested (held_in (state_at s o)) values derivatives)
      (tested_part which (held_in (state_at s o)) values derivatives)
  after none k =
      reads_machine (held_in s) empty (machine_empty (held_in s) nothing) (λ e. absurd (true≢false (sym nothing ∙ e))) values derivatives Unit
      (λ e f g. absurd (true≢false (sym nothing ∙ e)))
      which
  after (some p) k =
      let q = p.request in
      let h = held_in (state_for q p.n) in
      let e = held table long p k in
      let f : T (fits binary64 h.sequence.x) × T (fits binary64 h.sequence.f) = rw e (k.0.fit, (facts q k.0).f_fits) in
      reads_machine h (holding q p.n) (machine_at_law s nothing (some p) k) (λ _. f) values derivatives (Rungs table (holding q p.n) (some q) values derivatives)
      (rw e tells)
      which
    where
      tells : counts_empty (record { sequence = sequence_of p.request.function p.request.v p.request.x; n = p.n }) ≡ false
          → held_forward (record { sequence = sequence_of p.request.function p.request.v p.request.x; n = p.n }) ≡ true
          → too_short p.n (length values) (length derivatives) ≡ false
          → (holds_rungs (sequence_of p.request.function p.request.v p.request.x) p.n values derivatives ≡ true)
          ↔ Rungs table (holding p.request p.n) (some p.request) values derivatives
      tells e forward s =
          let r = sequence_of p.request.function p.request.v p.request.x in
          let c = room p.n (length values) (length derivatives) s in
          let i = each_slot r p.n values derivatives a b c.0 c.1 in
          let j = as_rungs r p.n values derivatives (least table long p k) in
          let t = as_table table long p k forward values derivatives c.0 c.1 in
          ((λ x. t.0 (j.0 (i.0 x))), (λ x. i.1 (j.1 (t.1 x))))

  pub after_list : (cs : List Call) → Numbers cs → ReadsAfter table s cs values derivatives which
  after_list cs numbers =
      let last = held_last table long s nothing cs numbers none tt none refl in
      rw (last.state, last.machine, last.request) (after last.finished last.known)

-- ---- what the machine holds after a list

-- a table that is long enough for every request
some_table : Request → List Float
some_table q = replicate (2 * num q.v) f0

some_table_long : Long some_table
unfolding some_table
some_table_long q number small = le_of_eq (sym (length-replicate (2 * num q.v) f0))

holds_last : (cs : List Call) → Numbers cs → (let feeds = map fed cs in HoldsLast (machine_after empty feeds) (last_accepted none (verdicts empty feeds) cs))
holds_last cs numbers = rw (last.machine, last.request) (go last.finished last.known)
  where
    last : HeldLast some_table some_table_long empty_state nothing_held none none cs
    last = held_last some_table some_table_long empty_state nothing_held cs numbers none tt none refl

    go : (o : Option Finished) → KnownAt o → HoldsLast (machine_at o) (request_at o)
    go none k = refl
    go (some p) k = holding_is p.request p.n ∙ rw k.1

-- ---- any state

any_state : (h : Held) (values derivatives : List Float) → F64s values → F64s derivatives → (which : Column) → ReadsAny h values derivatives which
any_state h values derivatives a b which =
    reads_held h values derivatives (Carried h.sequence h.n values derivatives) tells which
  where
    tells : counts_empty h ≡ false → held_forward h ≡ true → too_short h.n (length values) (length derivatives) ≡ false
        → (holds_rungs h.sequence h.n values derivatives ≡ true) ↔ Carried h.sequence h.n values derivatives
    tells e g s =
        let least = (not_empty h e).0 in
        let c = room h.n (length values) (length derivatives) s in
        let i = each_slot h.sequence h.n values derivatives a b c.0 c.1 in
        let j = as_carried h.sequence h.n values derivatives least in
        ((λ t. j.0 (i.0 t)), (λ t. i.1 (j.1 t)))

numbers : ((part : Bor (List Float)) → refusal_of (Ok part) ≡ 0) × (refusal_of {A = Unit} (Err NotForwardRefusal) ≡ 6) × (refusal_of {A = Unit} (Err TableTooShort) ≡ 3)
    × (refusal_of {A = Unit} (Err RungDiffers) ≡ 7)
unfolding refusal_of number
numbers = ((λ part. refl), refl, refl, refl)

pub tested_reader_law : TestedReader
tested_reader_law = record {
  lists = λ table long s nothing cs numbers values derivatives a b which.
      after_list table long s (by_reason (held_in s) nothing) values derivatives a b which cs numbers;
  holds_last = holds_last;
  any_state = any_state;
  numbers_read = numbers;
  part_read = part_given;
  none_read = no_part;
}
