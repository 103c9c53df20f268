-- What near is, and its range: near of a size of at most n is at most n + 1 in size.
use Rattle.std.proofs.Common.{◌≡◌, refl, Bool, true, false, cond, ℕ, ◌+◌, ◌-◌, ◌*◌, ◌/◌, ◌^◌, ◌≤◌, ◌<◌, min, mul_comm}
use Rattle.std.proofs.Common.{arith, lit≤, lit<, ℤ, pos, neg_ℤ}
use Rattle.std.specs.Float.{Float, fin, binary64}
use Rattle.std.specs.Float.Ieee.{up, down, neg, le, of_bits, to_signed}
use Rattle.std.specs.Float.Ieee.Exact.{HasValue}
use Rattle.std.proofs.Math.Nat.{div-le_of_le-mul}
use Rattle.std.specs.Int.Signed.{mag}
use Rattle.std.specs.Float.Ieee.Fits.{down_pos}
use Rattle.floats.specs.Operations.{◌⊕◌, ◌⊖◌, f0, f½}
use Rattle.floats.specs.Facts.{Between}
use Rattle.floats.proofs.Values.{neg_value, to_signed_at}
use Rattle.floats.proofs.Arithmetic.{sub_is}
use Rattle.floats.proofs.Bounds.{any_between}
use Rattle.near.specs.Near.{near}
use Rattle.near.proofs.Integers.{mag_neg}

pub near_is : (t : Float) → near t ≡ to_signed 31 (cond (le f0 t) (t ⊕ f½) (t ⊖ f½))
unfolding near
near_is t = refl

pub half_value : HasValue f½ false 1 2
unfolding of_bits
half_value = (refl, refl)

-- finite, and at most n in size
abbrev pub AtMost : Float → ℕ → Type 0
AtMost x n = (s : Bool) × Between x s 0 n 1

pub at_most : (s : Bool) (m : ℕ) (e : ℤ) (n : ℕ) → m * up e ≤ n * down e → AtMost (fin s m e) n
at_most s m e n h = (s, record { size = m * up e; over = down e; positive = down_pos e; value = (refl, refl); least = omega arith; most = omega arith })

cut_at_most : (x : Float) (n : ℕ) → n < 2 ^ 31 → AtMost x n → mag (to_signed 31 x) ≤ n
cut_at_most x n h (s, w) =
    rw (to_signed_at 31 x s w.size w.over w.positive w.value)
    (go s (w.size / w.over) (div-le_of_le-mul w.over (omega (arith, w.most, mul_comm w.over n))))
  where
    go : (s : Bool) (k : ℕ) → k ≤ n → mag (cond s (neg_ℤ (pos (min k (2 ^ 31)))) (pos (min k (2 ^ 31 - 1)))) ≤ n
    go true k q = mag_neg (min k 2147483648) n (omega arith)
    go false k q = omega arith

pub near_at_most : (x : Float) (n : ℕ) → n + 1 < 2 ^ 31 → AtMost x n → mag (near x) ≤ n + 1
near_at_most x n h (s, w) = rw (near_is x) (go (le f0 x))
  where
    ends : (t : Bool) (y : Float) → HasValue y t 1 2 → AtMost (x ⊕ y) (n + 1)
    ends t y v = any_between x y s t n 1 1 2 (n + 1) 0 (lit< tt) (lit< tt) (omega arith) (lit≤ tt) w v (omega arith)

    go : (b : Bool) → mag (to_signed 31 (cond b (x ⊕ f½) (x ⊖ f½))) ≤ n + 1
    go true = cut_at_most (x ⊕ f½) (n + 1) (omega arith) (ends false f½ half_value)
    go false = cut_at_most (x ⊖ f½) (n + 1) (omega arith) (rw (sub_is binary64 x f½) (ends true (neg f½) (neg_value f½ false 1 2 half_value)))
