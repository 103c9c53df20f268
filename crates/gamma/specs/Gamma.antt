-- 01, "Bottom rungs": gamma2 (src/xsf/specfun/gamma.rs), that is Γ(x), which has poles at 0, −1, −2, … (DLMF 5.2(i)).
-- Each step is one rounded operation, left to right. The definition of gamma2 is shut: other crates cannot unfold it.
-- What they may know of it are the contract and the laws of proofs/Laws.antt and proofs/Poles.antt.
pub mod Open
pub mod Examples
use Rattle.std.specs.Prelude.{◌≡◌, ◌<◌, ◌^◌, ℕ, ◌+◌, ◌-◌, false, cond, List, [], ◌∷◌, ℤ, pos, negsuc, Float}
use Rattle.std.specs.Float.Ieee.{lt, eq, neg, to_signed}
use Rattle.floats.specs.Operations.{◌⊕◌, ◌⊖◌, ◌⊗◌, ◌⊘◌, whole, f0, f1, pi}
use Rattle.signs.specs.Signs.{absolute, infinite}
use Rattle.truncation.specs.Truncation.{truncated, fraction}
use Rattle.floats.specs.Loops.{Turn, count_up}
use Rattle.trigonometric.specs.Trigonometric.{sin}
use Rattle.gamma.specs.Constants.{pole_value, gamma_coefficients}

-- the last k of a loop that counts up to m: for m below 0 it takes no turn
abbrev pub last_of : ℤ → ℕ
last_of (pos n) = n
last_of (negsuc n) = 0

-- "ga *= ..; if ga.is_infinite() { break; }"
unfoldable pub product_turn : (ℕ → Float) → ℕ → Float → Turn Float
product_turn factor k p = (infinite (p ⊗ factor k), p ⊗ factor k)

-- at each u32 a function with these results gives what `by` gives
abbrev pub Computes : (ℕ → Float → Type 0) → (ℕ → Float) → Type 0
Computes results by = (k : ℕ) (r : Float) → k < 2 ^ 32 → results k r → r ≡ by k

-- "for k in first..=last"
abbrev pub product : (ℕ → Float) → ℕ → ℕ → Float
product factor first last = count_up (product_turn factor) (last + 1 - first) first (false, f1)

-- "for k in 2..=m": m!, which is Γ(m + 1) (DLMF 5.4.1)
unfoldable pub factorial : ℕ → Float
factorial m = count_up (product_turn whole) (m + 1 - 2) 2 (false, f1)

-- "for k in 1..=m": (z − 1)(z − 2)…(z − m), which is Γ(z) / Γ(z − m) (DLMF 5.5.1)
unfoldable pub falling : Float → ℕ → Float
falling z m = count_up (product_turn (λ (k : ℕ). z ⊖ whole k)) (m + 1 - 1) 1 (false, f1)

-- "gr = G[25]; for k in (1..=25).rev() { gr *= z; gr += G[k - 1]; }", for any list of coefficients
unfoldable pub polynomial : List Float → Float → Float
polynomial [] z = f0
polynomial (c ∷ []) z = c
polynomial (c ∷ d ∷ ds) z = polynomial (d ∷ ds) z ⊗ z ⊕ c

-- 1 / (z Γ(z)) (DLMF 5.7.1)
unfoldable pub reciprocal_series : Float → Float
reciprocal_series z = polynomial gamma_coefficients z

-- "ga = 1.0 / (gr * z)"
unfoldable pub gamma_near : Float → Float
gamma_near z = f1 ⊘ (reciprocal_series z ⊗ z)

-- "let m = z as i32; .. z = z.fract(); .. ga *= r"
unfoldable pub gamma_above : Float → Float
gamma_above z = gamma_near (fraction z) ⊗ falling z (last_of (to_signed 31 z))

-- "ga = -PI / (x * ga * (PI * x).sin())": Γ(x) Γ(−x) is −π / (x sin(πx)) (DLMF 5.5.1, 5.5.3)
abbrev pub reflected : Float → Float → Float
reflected x ga = neg pi ⊘ (x ⊗ ga ⊗ sin (pi ⊗ x))

-- "x == x.trunc()", "x > 0.0", "x.abs() > 1.0", "x < 0.0"
pub gamma2 : Float → Float
gamma2 x =
    cond (eq x (truncated x))
    (cond (lt f0 x) (factorial (last_of (to_signed 31 (x ⊖ f1)))) pole_value)
    (cond (lt f1 (absolute x))
    (cond (lt x f0) (reflected x (gamma_above (absolute x))) (gamma_above (absolute x)))
    (gamma_near x))
