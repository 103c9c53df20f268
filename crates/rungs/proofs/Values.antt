-- The rungs behind 01's examples, at x = 0 and f = 0, as laws for the crates above: from the start rungs, which exponential and start_sums give, by
-- computed steps.
use Rattle.std.proofs.Common.{◌≡◌, sym, ap, ◌∙◌, ℕ, suc, ◌+◌, arith, true, false}
use Rattle.std.specs.Float.Ieee.{Float, add, mul, neg, le, eq, of_bits}
use Rattle.std.specs.Float.{nan}
use Rattle.floats.proofs.Examples.{entry_of}
use Rattle.floats.specs.Operations.{◌⊗◌, decimal, f0, f1}
use Rattle.signs.specs.Signs.{absolute}
use Rattle.exponential.proofs.Laws.{exp_zero, exp_minus_zero}
use Rattle.start_sums_large.specs.Constants.{root_two_over_pi}
use Rattle.start_sums_small.proofs.Laws.{vvsa_zero_zero}
use Rattle.floats.specs.declared.Function.TheVariants.{D, «V»}
use Rattle.recurrence.specs.Recurrence.{step, next_rung}
use Rattle.derivatives.specs.Derivatives.{derivative}
use Rattle.recurrence.proofs.Laws.{own_rung_two_D, own_rung_two_V_below, next_rung_is}
use Rattle.derivatives.proofs.Laws.{derivative_V_below}
use Rattle.recurrence.specs.Recurrence.Examples.{examples_hold}
use Rattle.order.specs.declared.Sequence.{Sequence}
use Rattle.rungs.specs.Rungs.{start_value, start_rungs, rung}
use Rattle.rungs.specs.Rungs.Open.{start_sum_V_small, small_limit_V, start_value_is, gaussian_is, growth_is, starts_gaussian_D_above, starts_gaussian_V, start_rungs_is}
use Rattle.rungs.proofs.Laws.{rungs_zero_one, rung_next, own_rung_two_law}

-- ---- D from order 0 on

abbrev pub d_at_zero : Sequence
d_at_zero = record { function = D; below = false; x = f0; f = f0 }

d_start : start_rungs d_at_zero ≡ (f1, f0)
unfolding eq mul neg of_bits
d_start = rw (start_rungs_is d_at_zero, starts_gaussian_D_above f0) (ap (λ (e : Float). (e, f0 ⊗ e)) (gaussian_is f0 ∙ exp_minus_zero))

both : start_rungs d_at_zero ≡ (rung d_at_zero 0, rung d_at_zero 1)
both = rungs_zero_one d_at_zero

pub D_rung_0 : rung d_at_zero 0 ≡ f1
D_rung_0 = ap (λ (r : Float × Float). r.0) (sym both ∙ d_start)

pub D_rung_1 : rung d_at_zero 1 ≡ f0
D_rung_1 = ap (λ (r : Float × Float). r.1) (sym both ∙ d_start)

-- a step from known values
pub step_to_law : (k : ℕ) (a b : Float) → rung d_at_zero k ≡ a → rung d_at_zero (suc k) ≡ b → next_rung D false f0 f0 (k + 2) a b ≡ rung d_at_zero (k + 2)
step_to_law k a b ea eb = let turn = rung_next d_at_zero k in grind (arith)

-- a rung from the two below it
above : (k : ℕ) (a b c : Float) → rung d_at_zero k ≡ a → rung d_at_zero (suc k) ≡ b → step D false f0 f0 (k + 2) a b ≡ c → rung d_at_zero (k + 2) ≡ c
above k a b c ea eb ec = let turn = rung_next d_at_zero k in grind (arith, next_rung_is, own_rung_two_D)

pub D_rung_2 : rung d_at_zero 2 ≡ neg f1
D_rung_2 = above 0 f1 f0 (neg f1) D_rung_0 D_rung_1 (entry_of examples_hold 0 nan)

pub D_rung_3 : rung d_at_zero 3 ≡ neg f0
D_rung_3 = above 1 f0 (neg f1) (neg f0) D_rung_1 D_rung_2 (entry_of examples_hold 1 nan)

pub D_rung_4 : rung d_at_zero 4 ≡ decimal 3 0
D_rung_4 = above 2 (neg f1) (neg f0) (decimal 3 0) D_rung_2 D_rung_3 (entry_of examples_hold 2 nan)

pub D_rung_5 : rung d_at_zero 5 ≡ f0
D_rung_5 = above 3 (neg f0) (decimal 3 0) f0 D_rung_3 D_rung_4 (entry_of examples_hold 3 nan)

-- ---- V below 0

abbrev pub v_at_zero : Sequence
v_at_zero = record { function = «V»; below = true; x = f0; f = f0 }

v_zero : start_value v_at_zero f0 ≡ f0
unfolding le absolute of_bits
v_zero = rw (start_value_is v_at_zero f0, small_limit_V, start_sum_V_small f0 f0) vvsa_zero_zero

v_start : start_rungs v_at_zero ≡ (f0, root_two_over_pi)
unfolding eq mul of_bits
v_start =
    rw (start_rungs_is v_at_zero, starts_gaussian_V true f0, own_rung_two_V_below f0)
    (ap (λ (e : Float). (start_value v_at_zero f0, root_two_over_pi ⊗ e)) (growth_is f0 ∙ exp_zero) ∙ ap (λ (a : Float). (a, root_two_over_pi ⊗ f1)) v_zero)

pub V_rung_0 : rung v_at_zero 0 ≡ f0
V_rung_0 = ap (λ (r : Float × Float). r.0) (sym (rungs_zero_one v_at_zero) ∙ v_start)

pub V_rung_1 : rung v_at_zero 1 ≡ root_two_over_pi
V_rung_1 = ap (λ (r : Float × Float). r.1) (sym (rungs_zero_one v_at_zero) ∙ v_start)

pub V_rung_2 : rung v_at_zero 2 ≡ f0
unfolding eq mul of_bits
V_rung_2 = sym (own_rung_two_law v_at_zero (own_rung_two_V_below f0)) ∙ ap (λ (r : Float). f0 ⊗ r) V_rung_1

pub V_derivative_1 : derivative «V» true f0 f0 1 root_two_over_pi f0 ≡ f0
unfolding add mul neg of_bits
V_derivative_1 = derivative_V_below f0 f0 1 root_two_over_pi f0

pub V_derivative_0 : derivative «V» true f0 f0 0 f0 root_two_over_pi ≡ root_two_over_pi
unfolding add mul neg of_bits
V_derivative_0 = derivative_V_below f0 f0 0 f0 root_two_over_pi
