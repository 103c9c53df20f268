-- The definitions by the outcomes of their tests, for the proofs of the code that makes them.
use Rattle.std.proofs.Common.{◌≡◌, refl, sym, ◌∙◌, cond, Bool, T, true, false, eqb, ltb, ℕ, ◌+◌, ◌≤◌, ◌<◌, Float, lt-ltb, le-ltb}
use Rattle.std.specs.Float.{binary64}
use Rattle.std.specs.Float.Ieee.{is_nan, fits}
use Rattle.std.proofs.lemmas.Bool.Decides.{nat_tests}
use denote.Enum.Bare.{sameb}
use Rattle.std.specs.Float.Ieee.Bits.{of_bits-to_bits}
use Rattle.floats.specs.Operations.{bits}
use Rattle.floats.specs.contracts.Function.{the_type}
use Rattle.floats.specs.declared.Function.{Function}
use Rattle.floats.specs.declared.Function.TheVariants.{D, «V»}
use Rattle.signs.specs.Signs.{alike}
use Rattle.order.specs.Order.{top_rung}
use Rattle.answer.specs.declared.Refusal.TheVariants.{TableTooShort}
use Rattle.answer.specs.Answer.{number}
use Rattle.answer.proofs.Laws.{numbered}
use Rattle.std.proofs.lemmas.Result.{err_from_is_err_and}
use Rattle.table_refusals.proofs.Laws.{refused_before, by_short, no_number, number_of}
use Rattle.table_refusals.specs.Refusals.{refusal_by}
use Rattle.ladder_machine.specs.declared.Request.{Request}
use Rattle.ladder_machine.specs.Machine.{too_short, refusal, bits_of, same_function}
use Rattle.ladder_machine.specs.Machine.Open.{too_short_is, refusal_is, bits_of_is, same_D_D, same_D_V, same_V_D, same_V_V, same_rungs_is, may_climb_is, case_by_empty, case_by_holds, case_of_is, verdict_on_request, verdict_is}
use Rattle.ladder_machine.specs.Held.Open.{counts_empty_is, held_forward_is, machine_of_is}
use Rattle.ladder_machine.proofs.Laws.{not_empty}

-- ---- what is too short

module _ (n values derivatives : ℕ) where
  pub short_values : values < n + 1 → true ≡ too_short n values derivatives
  short_values h = rw (too_short_is n values derivatives, lt-ltb values (n + 1) h)

  pub by_derivatives : n + 1 ≤ values → ltb derivatives n ≡ too_short n values derivatives
  by_derivatives h = rw (too_short_is n values derivatives, le-ltb values (n + 1) h)

-- ---- the same rungs

-- `==` on functions
pub same_flag : (a b : Function) → sameb the_type a b ≡ same_function a b
same_flag D D = sym same_D_D
same_flag D «V» = sym same_D_V
same_flag «V» D = sym same_V_D
same_flag «V» «V» = sym same_V_V

pub same_bits : (a b : Float) → is_nan a ≡ false → is_nan b ≡ false → alike a b ≡ eqb (bits_of a) (bits_of b)
unfolding alike
same_bits a b p q = rw (p, q, bits_of_is a, bits_of_is b)

-- a float is read back from its bits
pub bits_back : (x : Float) → T (fits binary64 x) → bits (bits_of x) ≡ x
bits_back x p = rw (bits_of_is x) (of_bits-to_bits binary64 x p)

-- what the tests of the code are, for `grind`
pub ruleset tests = (nat_tests, too_short_is, counts_empty_is, held_forward_is, same_rungs_is, same_flag, same_bits, may_climb_is, bits_back, machine_of_is, case_by_empty, case_by_holds, not_empty)

-- ---- the judgement by the outcomes of its tests: 1 and 2, then 3

module _ (q : Request) (values derivatives : ℕ) where
  pub refused_by : (k : ℕ) → refusal_by q.v q.x false ≡ k → (k ≡ 0 → ⊥) → refusal q values derivatives ≡ k
  refused_by k e some =
      refusal_is q values derivatives ∙ sym (refused_before q.v q.x (too_short (top_rung q.v) values derivatives) (λ z. some (sym e ∙ z))) ∙ e

  -- with the test of the lengths as it is called
  pub refusal_by_law : (short : Bool) → short ≡ too_short (top_rung q.v) values derivatives → refusal_by q.v q.x short ≡ refusal q values derivatives
  refusal_by_law short e = rw (refusal_is q values derivatives, e)

  pub by_lengths : refusal_by q.v q.x false ≡ 0 → refusal q values derivatives ≡ cond (too_short (top_rung q.v) values derivatives) 3 0
  by_lengths e = refusal_is q values derivatives ∙ by_short q.v q.x (too_short (top_rung q.v) values derivatives) e

-- the number of a table that is too short
pub number_of_short : number TableTooShort ≡ 3
unfolding number
number_of_short = refl

-- what the judgement is, for `judge`
pub ruleset judging = (nat_tests, refused_by, by_lengths, number_of_short, case_of_is, verdict_is, verdict_on_request, numbered, no_number, number_of, err_from_is_err_and)
