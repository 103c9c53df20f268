-- log1pmx of both zeros is 0: every term is a zero, so that no turn stops and the sum stays 0.
use Rattle.std.proofs.Common.{◌≡◌, refl, ap, ◌∙◌, Bool, true, false, ℕ, zero, suc, ◌+◌, ◌*◌, ◌≤◌, ◌<◌, le_trans}
use Rattle.std.proofs.Common.{zero-mul, arith, lit≤, Float}
use Rattle.std.specs.Float.{binary64}
use Rattle.std.specs.Float.Ieee.{add, mul, neg, lt, fits, of_bits}
use Rattle.floats.specs.Operations.{◌⊕◌, ◌⊗◌, ◌⊘◌, whole, f0}
use Rattle.floats.specs.Loops.{Turn, count_up}
use Rattle.floats.proofs.Arithmetic.{div_at}
use Rattle.floats.proofs.Rounding.{round_back}
use Rattle.floats.proofs.Values.{of_int_pos}
use Rattle.signs.specs.Signs.{absolute}
use Rattle.gamma_ratio.specs.Constants.{epsilon}
use Rattle.gamma_ratio.specs.GammaRatio.{log1pmx_turn, log1pmx_sum, log1pmx}
use Rattle.gamma_ratio.specs.GammaRatio.Open.{log1pmx_is}

-- the zero of each sign
abbrev zero_of : Bool → Float
zero_of false = f0
zero_of true = neg f0

abbrev same_sign : Bool → Bool → Bool
same_sign false false = true
same_sign false true = false
same_sign true false = false
same_sign true true = true

times : (c w : Bool) → zero_of c ⊗ neg (zero_of w) ≡ zero_of (same_sign c w)
unfolding mul neg of_bits
times false false = refl
times false true = refl
times true false = refl
times true true = refl

over : (c : Bool) (i : ℕ) → 0 < i → i ≤ 500 → zero_of c ⊘ whole i ≡ zero_of c
unfolding neg of_bits fits
over false i h g =
    div_at binary64 f0 (whole i) false 0 1 false i 1 (lit≤ tt) (lit≤ tt) h (refl, refl) (of_int_pos binary64 i (le_trans g (lit≤ tt)))
    ∙ round_back binary64 f0 false 0 (i * 1) (omega arith) tt (refl, zero-mul (i * 1))
over true i h g =
    div_at binary64 (neg f0) (whole i) true 0 1 false i 1 (lit≤ tt) (lit≤ tt) h (refl, refl) (of_int_pos binary64 i (le_trans g (lit≤ tt)))
    ∙ round_back binary64 (neg f0) true 0 (i * 1) (omega arith) tt (refl, zero-mul (i * 1))

-- no test stops at a zero term, and the sum stays 0
stays : (b : Bool) → ◌≡◌ {A = Turn (Float × Float)} (lt (absolute (zero_of b)) (epsilon ⊗ absolute (f0 ⊕ zero_of b)), (zero_of b, f0 ⊕ zero_of b)) (false, (zero_of b, f0))
unfolding absolute add mul neg lt of_bits
stays false = refl
stays true = refl

-- a turn, and all turns
turn : (w c : Bool) (i : ℕ) → 0 < i → i ≤ 500 → log1pmx_turn (zero_of w) i (zero_of c, f0) ≡ (false, (zero_of (same_sign c w), f0))
unfolding log1pmx_turn
turn w c i h g = rw (times c w, over (same_sign c w) i h g) (stays (same_sign c w))

all_turns : (w c : Bool) (n k : ℕ) → 0 < k → k + n ≤ 500 → (count_up (log1pmx_turn (zero_of w)) n k (false, (zero_of c, f0))).1 ≡ f0
unfolding count_up
all_turns w c zero k h g = refl
all_turns w c (suc n) k h g =
    ap (λ (t : Turn (Float × Float)). (count_up (log1pmx_turn (zero_of w)) n (k + 1) t).1) (turn w c k h (omega arith))
    ∙ all_turns w (same_sign c w) n (k + 1) (omega arith) (omega arith)

pub log1pmx_zero : log1pmx f0 ≡ f0
unfolding log1pmx_sum
log1pmx_zero = log1pmx_is f0 ∙ all_turns false false 498 2 (omega arith) (omega arith)

pub log1pmx_minus_zero : log1pmx (neg f0) ≡ f0
unfolding log1pmx_sum
log1pmx_minus_zero = log1pmx_is (neg f0) ∙ all_turns true true 498 2 (omega arith) (omega arith)
