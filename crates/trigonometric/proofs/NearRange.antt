-- The range of near in sin and cos: the quarter turns are at most 2 ^ 30 + 1 in size, so that the cast to i32 never saturates.
use Rattle.std.proofs.Common.{◌≡◌, sym, subst, true, false, ◌+◌, ◌*◌, ◌^◌, ◌≤◌, arith, ltb-true, T, lit≤, lit<}
use Rattle.std.specs.Float.{Float, nan, inf, fin}
use Rattle.std.specs.Float.Ieee.{up, down, neg, lt, of_bits}
use Rattle.std.specs.Int.Signed.{mag}
use Rattle.floats.specs.Operations.{◌⊗◌}
use Rattle.floats.proofs.Bounds.{mul_between}
use Rattle.near.proofs.NearRange.{AtMost, at_most, near_at_most}
use Rattle.trigonometric.specs.Constants.{two_over_pi, angle_end}
use Rattle.trigonometric.specs.Trigonometric.{quarters}
use Rattle.trigonometric.proofs.ConstantValues.{two_over_pi_value}

angle_kept : (y : Float) → lt y angle_end ≡ true → lt (neg angle_end) y ≡ true → AtMost y (2 ^ 30)
unfolding lt neg of_bits
angle_kept nan p q = absurd (subst T (sym p) tt)
angle_kept (inf true) p q = absurd (subst T (sym q) tt)
angle_kept (inf false) p q = absurd (subst T (sym p) tt)
angle_kept (fin true m e) p q = let k = ltb-true (m * up e * 1) (2 ^ 30 * down e) q in at_most true m e (2 ^ 30) (omega arith)
angle_kept (fin false m e) p q = let k = ltb-true (m * up e * 1) (2 ^ 30 * down e) p in at_most false m e (2 ^ 30) (omega arith)

pub quarters_range : (y : Float) → lt y angle_end ≡ true → lt (neg angle_end) y ≡ true → mag (quarters y) ≤ 2 ^ 30 + 1
quarters_range y p q = go (angle_kept y p q)
  where
    go : AtMost y (2 ^ 30) → mag (quarters y) ≤ 2 ^ 30 + 1
    go (s, w) =
        near_at_most (y ⊗ two_over_pi) (2 ^ 30) (lit< tt) (
          _,
          mul_between y two_over_pi s false 0 (2 ^ 30) 1 5734161139222659 (2 ^ 53) 0 (2 ^ 30) 0 (lit< tt) (lit< tt) (lit< tt) (lit< tt) (lit≤ tt) w two_over_pi_value
              (lit≤ tt) (lit≤ tt),
        )
