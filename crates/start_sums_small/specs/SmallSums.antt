-- 01, "Bottom rungs": dvsa and vvsa (src/xsf/par_cyl.rs). Each step is one rounded operation, left to right. In DLMF's
-- words D of the order v is U(a, x) and V of the order v is V(a, x), with a = −v − 1/2 (DLMF 12.1).
-- The definitions of the two are shut: other crates cannot unfold them. What they may know of them are the contracts
-- and the laws of proofs/Laws.antt and proofs/Poles.antt.
pub mod Open
pub mod Examples
use Rattle.std.specs.Prelude.{ℕ, Bool, false, cond, ◌&&◌, ◌||◌, Float}
use Rattle.std.specs.Float.Ieee.{lt, le, eq, neg, to_signed}
use Rattle.floats.specs.Operations.{◌⊕◌, ◌⊖◌, ◌⊗◌, ◌⊘◌, float, whole, f0, f½, f1, pi, f¼}
use Rattle.signs.specs.Signs.{absolute}
use Rattle.floats.specs.Loops.{Turn, count_up}
use Rattle.logarithm.specs.Constants.{root2}
use Rattle.exponential.specs.Exponential.{exp, exp2}
use Rattle.trigonometric.specs.Trigonometric.{sin}
use Rattle.trigonometric.specs.QuarterTurns.{order_sine}
use Rattle.gamma.specs.Gamma.{gamma2}
use Rattle.start_sums_small.specs.Constants.{tau, root_pi, series_epsilon}

-- ---- dvsa: D for small arguments (DLMF 12.4.1)

-- "(va0 <= 0.0) && (va0 == f64::from(va0 as i32))": a pole of Γ in i32's range
unfoldable pub is_pole : Float → Bool
is_pole y = le y f0 && eq y (float (to_signed 31 y))

-- "ep = (-0.25 * x * x).exp()"
abbrev pub ep : Float → Float
ep x = exp (neg f¼ ⊗ x ⊗ x)

-- at x = 0: √π / (2^(−va/2) Γ((1 − va)/2)) (DLMF 12.2.6)
unfoldable pub dvsa_at_zero : Float → Float
dvsa_at_zero va =
    let va0 = f½ ⊗ (f1 ⊖ va) in
    cond (is_pole va0) f0 (root_pi ⊘ (exp2 (neg f½ ⊗ va) ⊗ gamma2 va0))

-- term m of the sum over Γ((m − va)/2) (−√2 x)^m / m!, with r₀ and pd₀ before it
unfoldable pub dvsa_turn : Float → Float → ℕ → Float × Float → Turn (Float × Float)
dvsa_turn x va m (r₀, pd₀) =
    let r = neg r₀ ⊗ root2 ⊗ x ⊘ whole m in
    let r1 = gamma2 (f½ ⊗ (whole m ⊖ va)) ⊗ r in
    let pd = pd₀ ⊕ r1 in
    (lt (absolute r1) (absolute pd ⊗ series_epsilon), (r, pd))

-- r and pd after "for m in 1..=250"
unfoldable pub dvsa_sum : Float → Float → Float → Float × Float
dvsa_sum x va g0 = count_up (dvsa_turn x va) 250 1 (false, (f1, g0))

-- "a0 = (-0.5 * va - 1.0).exp2() * ep / g1"
abbrev pub dvsa_factor : Float → Float → Float
dvsa_factor x va = exp2 (neg f½ ⊗ va ⊖ f1) ⊗ ep x ⊘ gamma2 (neg va)

-- "pd *= a0", the sum being from g0 on
pub dvsa : Float → Float → Float
dvsa x va =
    cond (eq va f0) (ep x)
    (cond (eq x f0) (dvsa_at_zero va)
    ((dvsa_sum x va (gamma2 (neg f½ ⊗ va))).1 ⊗ dvsa_factor x va))

-- ---- vvsa: V for small arguments (DLMF 12.4.2)

-- at x = 0: 2^(−va/2) sin(va0 π) / Γ(va0), va0 = 1 + va/2 (DLMF 12.2.8, 5.5.3)
unfoldable pub vvsa_at_zero : Float → Float
vvsa_at_zero va =
    let va0 = f1 ⊕ f½ ⊗ va in
    cond (is_pole va0 || eq va f0) f0 (exp2 (neg f½ ⊗ va) ⊗ sin (va0 ⊗ pi) ⊘ gamma2 va0)

-- term m of the sum over (1 + (−1)^m sv) Γ((m − va)/2) (√2 x)^m / m!, with r₀, fac₀ and pv₀ before it. The stop test
-- leaves the weight gw out.
unfoldable pub vvsa_turn : Float → Float → Float → ℕ → Float × Float × Float → Turn (Float × Float × Float)
vvsa_turn x va sv m (r₀, fac₀, pv₀) =
    let gm = gamma2 (f½ ⊗ (whole m ⊖ va)) in
    let r = r₀ ⊗ root2 ⊗ x ⊘ whole m in
    let fac = neg fac₀ in
    let gw = fac ⊗ sv ⊕ f1 in
    let pv = pv₀ ⊕ gw ⊗ r ⊗ gm in
    (lt (absolute (r ⊗ gm ⊘ pv)) series_epsilon, (r, fac, pv))

-- the first term: "pv = (sv + 1.0) * g1". At whole orders from 0 on g1 is gamma2's answer at a pole where va is even,
-- and sv + 1 is 0 there (proofs/Poles.antt, `first_pole_term`).
abbrev pub vvsa_first : Float → Float
vvsa_first va = (order_sine va ⊕ f1) ⊗ gamma2 (neg f½ ⊗ va)

-- r, fac and pv after "for m in 1..=250"
unfoldable pub vvsa_sum : Float → Float → Float → Float → Float × Float × Float
vvsa_sum x va sv pv = count_up (vvsa_turn x va sv) 250 1 (false, (f1, f1, pv))

-- "a0 = (-0.5 * va).exp2() * ep / TAU"
abbrev pub vvsa_factor : Float → Float → Float
vvsa_factor x va = exp2 (neg f½ ⊗ va) ⊗ ep x ⊘ tau

-- "sv = (-(va + 0.5) * PI).sin()", "pv *= a0"
pub vvsa : Float → Float → Float
vvsa x va = cond (eq x f0) (vvsa_at_zero va) ((vvsa_sum x va (order_sine va) (vvsa_first va)).2 ⊗ vvsa_factor x va)
