-- The range of near in exp and exp2: the exponent k is at most 1081 in size, so that binary64 has both powers of two that k is split into, and the cast to
-- i32 never saturates.
use Rattle.std.proofs.Common.{◌≡◌, refl, subst, true, false, ◌*◌, ◌^◌, ◌≤◌, arith, ltb-false, T, lit≤, lit<}
use Rattle.std.specs.Float.{Float, nan, inf, fin}
use Rattle.std.specs.Float.Ieee.{up, down, neg, lt, le, ne, of_bits}
use Rattle.std.specs.Float.Ieee.Exact.{HasValue}
use Rattle.std.specs.Int.Signed.{mag}
use Rattle.std.proofs.lemmas.Bool.{or_parts}
use Rattle.floats.specs.Operations.{◌⊗◌}
use Rattle.floats.proofs.Bounds.{mul_between}
use Rattle.near.specs.Near.{near}
use Rattle.near.proofs.NearRange.{AtMost, at_most, near_at_most}
use Rattle.exponential.specs.Constants.{log2e, exp_highest, exp_lowest, exp2_highest, exp2_lowest}

-- the constant as a fraction: its digits over a power of two
log2e_value : HasValue log2e false 3248660424278399 (2 ^ 51)
unfolding of_bits
log2e_value = (refl, refl)

-- ---- exp: what its tests leave

exp_kept : (y : Float) → ne y y ≡ false → lt exp_highest y ≡ false → lt y (neg exp_lowest) ≡ false → AtMost y 746
unfolding ne lt neg of_bits
exp_kept nan p q r = absurd (subst T p tt)
exp_kept (inf true) p q r = absurd (subst T r tt)
exp_kept (inf false) p q r = absurd (subst T q tt)
exp_kept (fin true m e) p q r = let k = ltb-false (3277424260074701 * down e) (m * up e * 2 ^ 42) r in at_most true m e 746 (omega arith)
exp_kept (fin false m e) p q r = let k = ltb-false (6243314768165359 * down e) (m * up e * 2 ^ 43) q in at_most false m e 746 (omega arith)

pub exp_exponent : (y : Float) → ne y y ≡ false → lt exp_highest y ≡ false → lt y (neg exp_lowest) ≡ false → mag (near (y ⊗ log2e)) ≤ 1081
exp_exponent y p q r = go (exp_kept y p q r)
  where
    go : AtMost y 746 → mag (near (y ⊗ log2e)) ≤ 1081
    go (s, w) =
        near_at_most (y ⊗ log2e) 1080 (lit< tt) (
          _,
          mul_between y log2e s false 0 746 1 3248660424278399 (2 ^ 51) 0 1080 0 (lit< tt) (lit< tt) (lit< tt) (lit< tt) (lit≤ tt) w log2e_value
              (lit≤ tt) (lit≤ tt),
        )

-- ---- exp2

exp2_kept : (y : Float) → ne y y ≡ false → le exp2_highest y ≡ false → lt y (neg exp2_lowest) ≡ false → AtMost y 1080
unfolding ne le lt neg of_bits
exp2_kept nan p q r = absurd (subst T p tt)
exp2_kept (inf true) p q r = absurd (subst T r tt)
exp2_kept (inf false) p q r = absurd (subst T q tt)
exp2_kept (fin true m e) p q r = let k = ltb-false (1080 * down e) (m * up e * 1) r in at_most true m e 1080 (omega arith)
exp2_kept (fin false m e) p q r =
    let k = ltb-false (1024 * down e) (m * up e * 1) (or_parts _ _ q).0 in
    at_most false m e 1080 (omega arith)

pub exp2_exponent : (y : Float) → ne y y ≡ false → le exp2_highest y ≡ false → lt y (neg exp2_lowest) ≡ false → mag (near y) ≤ 1081
exp2_exponent y p q r = near_at_most y 1080 (lit< tt) (exp2_kept y p q r)
