-- 01's example P11, the machine's part: D, x = 0, v = 2, 4, 4, 2; and the least n that a climb goes on from, by v = 0,
-- 1, 2. The parts of the orders are computed in `order`.
use Rattle.std.proofs.Common.{◌≡◌, refl, sym, ◌∙◌, false, true, ◌&&◌, cond, [], ◌∷◌, ℕ, eq-eqb, eqb, leb, ltb, Float}
use Rattle.std.specs.Float.Ieee.{is_nan, of_bits}
use Rattle.floats.specs.Operations.{◌⊕◌, bits, whole, decimal, f0, f1}
use Rattle.order.specs.Order.{top_rung}
use Rattle.order.specs.Order.Examples.{parts}
use Rattle.order.proofs.Laws.{order_zero, order_one, order_two, order_four, large, side, part, top}
use Rattle.floats.specs.declared.Function.TheVariants.{D}
use Rattle.branches.proofs.Laws.{forward_runs}
use Rattle.branches.proofs.Laws.{D_forward}
use Rattle.table_refusals.proofs.Laws.{not_refused, of_numbers}
use Rattle.ladder_machine.specs.declared.Request.{Request}
use Rattle.ladder_machine.specs.Machine.{asks, Feed, asked, too_short, refusal, Machine, empty, holds, bits_of, holding, refuses, repeats, climbs, starts_over, may_climb, verdict, next, verdicts}
use Rattle.ladder_machine.specs.Machine.Open.{too_short_is, refusal_is, holding_is, same_D_D, same_rungs_is, may_climb_is, case_by_empty, case_by_holds, case_of_is, verdict_on_request, verdict_is}
use Rattle.ladder_machine.proofs.Laws.{next_accepted, verdicts_nil, verdicts_cons}

-- D at x = 0 and an order with f = 0 from 0 on, with tables of 6 and 5 slots
module _ (v u : Float) (n m : ℕ) (e : parts v ≡ (false, false, u, f0, n, m)) (number : is_nan v ≡ false) (room : too_short n 6 5 ≡ false) where
  abbrev q : Request
  q = asks D v f0

  ok : refusal q 6 5 ≡ 0
  unfolding is_nan of_bits
  ok = refusal_is q 6 5 ∙ sym (not_refused v f0 (too_short (top_rung v) 6 5) number refl (large v _ e) (rw (top v _ e) room))

  record_is : holding q (top_rung v) ≡ holds D false (bits_of f0) (bits_of f0) n
  record_is = holding_is q (top_rung v) ∙ rw (side v _ e, part v _ e, top v _ e)

  from_empty : verdict empty (asked q 6 5) ≡ starts_over n
  from_empty = verdict_is empty (asked q 6 5) ∙ verdict_on_request empty q 6 5 ∙ rw (eq-eqb (refusal q 6 5) 0 ok, case_of_is empty q, case_by_empty, top v _ e)

  may_climb_law : (k : ℕ) → may_climb D false (bits_of f0) (bits_of f0) k n ≡ (ltb k n && leb 2 k && true)
  may_climb_law k =
      may_climb_is D false (bits_of f0) (bits_of f0) k n
      ∙ rw (forward_runs D false (bits (bits_of f0)) (whole k ⊕ bits (bits_of f0)) (D_forward (bits (bits_of f0)) (whole k ⊕ bits (bits_of f0))))

  from_held : (k : ℕ) → verdict (holds D false (bits_of f0) (bits_of f0) k) (asked q 6 5)
      ≡ cond (eqb k n) (repeats n) (cond (ltb k n && leb 2 k && true) (climbs k n) (starts_over n))
  from_held k =
      verdict_is (holds D false (bits_of f0) (bits_of f0) k) (asked q 6 5)
      ∙ verdict_on_request (holds D false (bits_of f0) (bits_of f0) k) q 6 5
      ∙ rw (
        eq-eqb (refusal q 6 5) 0 ok,
        case_of_is (holds D false (bits_of f0) (bits_of f0) k) q,
        side v _ e,
        part v _ e,
        top v _ e,
        case_by_holds D false (bits_of f0) (bits_of f0) k D false (bits_of f0) (bits_of f0) n,
        same_rungs_is D false (bits_of f0) (bits_of f0) D false (bits_of f0) (bits_of f0),
        same_D_D,
        eq-eqb (bits_of f0) (bits_of f0) refl,
        may_climb_law k,
      )

-- the requests, each with tables of 6 and 5 slots
abbrev zero : Feed
zero = asked (asks D f0 f0) 6 5

abbrev one : Feed
one = asked (asks D f1 f0) 6 5

abbrev two : Feed
two = asked (asks D (decimal 2 0) f0) 6 5

abbrev four : Feed
four = asked (asks D (decimal 4 0) f0) 6 5

held : (v u : Float) (n m : ℕ) → parts v ≡ (false, false, u, f0, n, m) → is_nan v ≡ false → too_short n 6 5 ≡ false → (k : Machine)
    → next k (asked (asks D v f0) 6 5) ≡ holds D false (bits_of f0) (bits_of f0) n
held v u n m e number room k = next_accepted k (asks D v f0) 6 5 (ok v u n m e number room) ∙ record_is v u n m e number room

-- P11: started over, climbed from 3 to 5, repeated, started over
pub P11_verdicts : verdicts empty (two ∷ four ∷ four ∷ two ∷ []) ≡ starts_over 3 ∷ climbs 3 5 ∷ repeats 5 ∷ starts_over 3 ∷ []
unfolding is_nan of_bits decimal
P11_verdicts =
    let h = holds D false (bits_of f0) (bits_of f0) in
    rw (
      verdicts_cons empty two (four ∷ four ∷ two ∷ []),
      from_empty (decimal 2 0) _ 3 5 order_two refl (too_short_is 3 6 5),
      held (decimal 2 0) _ 3 5 order_two refl (too_short_is 3 6 5) empty,
      verdicts_cons (h 3) four (four ∷ two ∷ []),
      from_held (decimal 4 0) _ 5 7 order_four refl (too_short_is 5 6 5) 3,
      held (decimal 4 0) _ 5 7 order_four refl (too_short_is 5 6 5) (h 3),
      verdicts_cons (h 5) four (two ∷ []),
      from_held (decimal 4 0) _ 5 7 order_four refl (too_short_is 5 6 5) 5,
      held (decimal 4 0) _ 5 7 order_four refl (too_short_is 5 6 5) (h 5),
      verdicts_cons (h 5) two [],
      from_held (decimal 2 0) _ 3 5 order_two refl (too_short_is 3 6 5) 5,
      verdicts_nil (next (h 5) two),
    )

-- from n = 1 it starts over, from n = 2 it climbs
pub limit_verdicts : verdicts empty (zero ∷ one ∷ two ∷ []) ≡ starts_over 1 ∷ starts_over 2 ∷ climbs 2 3 ∷ []
unfolding is_nan of_bits decimal
limit_verdicts =
    let h = holds D false (bits_of f0) (bits_of f0) in
    rw (
      verdicts_cons empty zero (one ∷ two ∷ []),
      from_empty f0 _ 1 3 order_zero refl (too_short_is 1 6 5),
      held f0 _ 1 3 order_zero refl (too_short_is 1 6 5) empty,
      verdicts_cons (h 1) one (two ∷ []),
      from_held f1 _ 2 4 order_one refl (too_short_is 2 6 5) 1,
      held f1 _ 2 4 order_one refl (too_short_is 2 6 5) (h 1),
      verdicts_cons (h 2) two [],
      from_held (decimal 2 0) _ 3 5 order_two refl (too_short_is 3 6 5) 2,
      verdicts_nil (next (h 2) two),
    )

-- order 2, n = 3: 4 values and 3 derivatives do, one fewer of either gives 3, also where the request is held and nothing would be written
pub lengths_tested : (refusal (asks D (decimal 2 0) f0) 4 3 ≡ 0) × (refusal (asks D (decimal 2 0) f0) 3 3 ≡ 3) × (refusal (asks D (decimal 2 0) f0) 4 2 ≡ 3)
    × (verdict (holds D false (bits_of f0) (bits_of f0) 3) (asked (asks D (decimal 2 0) f0) 3 3) ≡ refuses 3)
unfolding is_nan of_bits decimal
lengths_tested =
    let q = asks D (decimal 2 0) f0 in
    let by : (values derivatives : ℕ) → refusal q values derivatives ≡ cond (too_short 3 values derivatives) 3 0 =
    λ values derivatives.
    refusal_is q values derivatives
    ∙ rw (top (decimal 2 0) _ order_two, of_numbers (decimal 2 0) f0 (too_short 3 values derivatives) refl refl, large (decimal 2 0) _ order_two) in
    let three : refusal q 3 3 ≡ 3 = by 3 3 ∙ rw (too_short_is 3 3 3) in (
      by 4 3 ∙ rw (too_short_is 3 4 3),
      three,
      by 4 2 ∙ rw (too_short_is 3 4 2),
      verdict_is (holds D false (bits_of f0) (bits_of f0) 3) (asked q 3 3)
          ∙ verdict_on_request (holds D false (bits_of f0) (bits_of f0) 3) q 3 3
          ∙ rw three,
    )
