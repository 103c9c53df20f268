-- 01, "Bottom rungs": dvla and vvla (src/xsf/par_cyl.rs); dvsa and vvsa are of `start_sums_small`. Each step is one
-- rounded operation, left to right. In DLMF's words D of the order v is U(a, x) and V of the order v is V(a, x), with a
-- = −v − 1/2 (DLMF 12.1).
-- The definitions of the two are shut: other crates cannot unfold them. What they may know of them are the contracts.
pub mod Open
pub mod Examples
use Rattle.std.specs.Prelude.{◌≡◌, ℕ, false, cond, Float}
use Rattle.std.specs.Float.Ieee.{lt, neg}
use Rattle.floats.specs.Operations.{◌⊕◌, ◌⊖◌, ◌⊗◌, ◌⊘◌, whole, f0, f½, f1, f2, pi, f¼}
use Rattle.signs.specs.Signs.{absolute}
use Rattle.floats.specs.Loops.{Turn, count_up}
use Rattle.exponential.specs.Exponential.{exp}
use Rattle.logarithm.specs.Logarithm.{power}
use Rattle.trigonometric.specs.Trigonometric.{sin, cos}
use Rattle.gamma.specs.Gamma.{gamma2}
use Rattle.start_sums_small.specs.SmallSums.{ep}
use Rattle.start_sums_large.specs.Constants.{root_two_over_pi, expansion_epsilon}

-- ---- the sum of an expansion

-- "r = ..; pd += r; if (r / pd).abs() < eps { break; }", with r₀ and s₀ before it; `next` is the term at k by the one
-- before it
unfoldable pub expansion_turn : (Float → Float → Float) → ℕ → Float × Float → Turn (Float × Float)
expansion_turn next k (r₀, s₀) =
    let r = next (whole k) r₀ in
    let s = s₀ ⊕ r in
    (lt (absolute (r ⊘ s)) expansion_epsilon, (r, s))

-- r and the sum after "for k in 1..=count"
abbrev pub expansion_sum : (Float → Float → Float) → ℕ → Float × Float
expansion_sum next count = count_up (expansion_turn next) count 1 (false, (f1, f1))

-- a function with these results gives what `by` gives
abbrev pub Computes : (Float → Float → Float → Type 0) → (Float → Float → Float) → Type 0
Computes results by = (k r₀ r : Float) → results k r₀ r → r ≡ by k r₀

-- ---- dvla: D for large arguments

-- the term with (−1)^k (−va)(1 − va)…(2k − 1 − va) / (k! (2x²)^k), r₀ being the one before it
abbrev pub dvla_term : Float → Float → Float → Float → Float
dvla_term x va kf r₀ = neg f½ ⊗ r₀ ⊗ (f2 ⊗ kf ⊖ va ⊖ f1) ⊗ (f2 ⊗ kf ⊖ va ⊖ f2) ⊘ (kf ⊗ x ⊗ x)

-- r and pd after "for k in 1..=16"
unfoldable pub dvla_sum : Float → Float → Float × Float
dvla_sum x va = expansion_sum (dvla_term x va) 16

-- "pd *= a0" with "a0 = x.abs().powf(va) * ep" (DLMF 12.9.1)
unfoldable pub dvla_expansion : Float → Float → Float
dvla_expansion x va = (dvla_sum x va).1 ⊗ (power (absolute x) va ⊗ ep x)

-- "pd = PI * vl / gl + (PI * va).cos() * pd": D at −x by D and V at x (DLMF 12.2.15)
unfoldable pub dvla_joined : Float → Float → Float → Float
dvla_joined va pd vl = pi ⊗ vl ⊘ gamma2 (neg va) ⊕ cos (pi ⊗ va) ⊗ pd

-- ---- vvla: V for large arguments

-- the term with (va + 1)(va + 2)…(va + 2k) / (k! (2x²)^k), r₀ being the one before it
abbrev pub vvla_term : Float → Float → Float → Float → Float
vvla_term x va kf r₀ = f½ ⊗ r₀ ⊗ (f2 ⊗ kf ⊕ va ⊖ f1) ⊗ (f2 ⊗ kf ⊕ va) ⊘ (kf ⊗ x ⊗ x)

-- r and pv after "for k in 1..=18"
unfoldable pub vvla_sum : Float → Float → Float × Float
vvla_sum x va = expansion_sum (vvla_term x va) 18

-- "pv *= a0" with "a0 = x.abs().powf(-va - 1.0) * SQRT_FRAC_2_PI * qe" and "qe = (0.25 * x * x).exp()" (DLMF 12.9.2)
unfoldable pub vvla_expansion : Float → Float → Float
vvla_expansion x va = (vvla_sum x va).1 ⊗ (power (absolute x) (neg va ⊖ f1) ⊗ root_two_over_pi ⊗ exp (f¼ ⊗ x ⊗ x))

-- "pv = dsl * gl / PI * pdl - (PI * va).cos() * pv": V at −x by D and V at x (DLMF 12.2.16, 5.5.3)
unfoldable pub vvla_joined : Float → Float → Float → Float
vvla_joined va pv pdl =
    let dsl = sin (pi ⊗ va) ⊗ sin (pi ⊗ va) in
    dsl ⊗ gamma2 (neg va) ⊘ pi ⊗ pdl ⊖ cos (pi ⊗ va) ⊗ pv

-- 01: "dvla and vvla form a cycle; falling number is 1 for negative x, 0 otherwise"
abbrev pub falling_number : Float → ℕ
falling_number x = cond (lt x f0) 1 0

-- The two call each other at −x where x is negative. There −x is not negative and the answer is the expansion alone, so
-- no recursion is left (`dvla_below` and `vvla_below` of StartSums/Open.antt have the calls as the source has them).
pub dvla : Float → Float → Float
dvla x va = cond (lt x f0) (dvla_joined va (dvla_expansion x va) (vvla_expansion (neg x) va)) (dvla_expansion x va)

pub vvla : Float → Float → Float
vvla x va = cond (lt x f0) (vvla_joined va (vvla_expansion x va) (dvla_expansion (neg x) va)) (vvla_expansion x va)
