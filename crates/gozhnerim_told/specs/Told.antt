-- What the C interface tells of an order and of a reply is what the table calls and the ladder test and do: `OrdersTold`
-- and `CasesTold`.
use Rattle.std.specs.Prelude.{◌≡◌, List, ℕ, ◌≤◌, Bool, false, ◌||◌, cond, T, eqb, ltb, length, Float}
use Rattle.std.specs.Float.{binary64, nan}
use Rattle.std.specs.Float.Ieee.{is_nan, fits}
use Rattle.tables.specs.Tables.{refusal}
use Rattle.order.specs.Order.{num}
use Rattle.ladder_machine.specs.declared.Request.{Request}
use Rattle.ladder_machine.specs.Machine.{request, empty, Verdict, refuses, repeats, climbs, starts_over}
use Rattle.ladder_lists.specs.Demand3.{ask, Number}
use Rattle.gozhnerim_structs.specs.declared.GozhnerimLadder.{GozhnerimLadder}
use Rattle.gozhnerim_lists.specs.Requests.{requested_in_c}
use Rattle.gozhnerim_lists.specs.Lists.{begun_with, says_in_c}
use Rattle.gozhnerim_told.specs.declared.GozhnerimOrder.{GozhnerimOrder}
use Rattle.gozhnerim_told.specs.Orders.{order_in}
use Rattle.gozhnerim_told.specs.Cases.{case_in}

-- ---- an order

-- the order's own number, and else 3 where a table is too short
unfoldable pub refused_for : ℕ → Bool → ℕ
refused_for number short = cond (eqb number 0) (cond short 3 0) number

-- the state has the order's side, n and f
abbrev pub Holds : GozhnerimOrder → GozhnerimLadder → Type 0
Holds o s = (s.below_zero ≡ o.below_zero) × (s.n ≡ o.n) × (s.f ≡ o.f)

pub record OrdersTold : Type 0 where
  -- on a refusal every other number is 0, and f is NaN
  pub refused : (v : Float) → ((order_in v).refusal ≡ 0 → ⊥)
      → order_in v
      ≡ record {
        refusal = (order_in v).refusal;
        below_zero = 0;
        n = 0;
        num = 0;
        table_slots = 0;
        value_slots = 0;
        derivative_slots = 0;
        f = nan;
      }
  -- how far a derivative stands above its value
  pub place : (v : Float) → (order_in v).refusal ≡ 0 → (order_in v).num ≡ num v
  -- a table call whose argument is a number: refused by the order's number, and else below table_slots
  pub tables : (v x : Float) (slots : ℕ) → is_nan x ≡ false
      → refusal v x slots ≡ refused_for (order_in v).refusal (ltb slots (order_in v).table_slots)
  -- a ladder's request whose argument is a number, whatever the bits of the state are: refused by the order's number,
  -- and else below value_slots or derivative_slots
  pub ladders : (held : GozhnerimLadder) (q : Request) → Number (request q) → is_nan q.x ≡ false → (l d : List Float)
      → (let o = order_in q.v in
      (requested_in_c held q l d).reply.refusal
      ≡ refused_for o.refusal (ltb (length l) o.value_slots || ltb (length d) o.derivative_slots))
  -- a ladder that was empty has the order's side, n and f after a request that is not refused
  pub states : (held : GozhnerimLadder) → begun_with held ≡ empty → (q : Request) → Number (request q)
      → (l d : List Float) → (requested_in_c held q l d).reply.refusal ≡ 0
      → Holds (order_in q.v) (requested_in_c held q l d).reply.ladder
  -- so many slots do for every order
  pub most : (v : Float) → T (fits binary64 v)
      → ((order_in v).table_slots ≤ 2004) × ((order_in v).value_slots ≤ 1001) × ((order_in v).derivative_slots ≤ 1000)

-- ---- a reply: its case is the machine's, whatever the bits of the state were

unfoldable pub case_number : Verdict → ℕ
case_number (refuses number) = 0
case_number (repeats n) = 1
case_number (climbs m n) = 2
case_number (starts_over n) = 3

pub record CasesTold : Type 0 where
  pub cases : (held : GozhnerimLadder) (q : Request) → Number (request q) → (l d : List Float)
      → case_in (requested_in_c held q l d).reply ≡ case_number (says_in_c held (ask q l d))
