-- The parts of a whole order from 0 to 999. Its size is m, and its sign is plus, or either where m is 0.
use Rattle.std.proofs.Common.{◌≡◌, refl, sym, ap, ◌∙◌, subst, ◌⊎◌, inl, inr, ℕ, ◌+◌, ◌/◌, ◌^◌, ◌≤◌, le_refl}
use Rattle.std.proofs.Common.{div-one, arith, ne_eqb, Bool, true, false, le-ltb, T, eqb, pos, nat_abs, zero-lt-suc, zero-le}
use Rattle.std.specs.Float.Ieee.Exact.{HasValue}
use Rattle.std.proofs.Math.Dec.{eqb_refl}
use Rattle.std.proofs.Math.Nat.{sub_self}
use Rattle.std.specs.Float.Ieee.{Float, binary64, prec, below as belowTest, round, to_signed, of_int, of_bits}
use Rattle.std.specs.Float.Ieee.Bits.{is_true}
use Rattle.std.specs.Float.Ieee.Fits.{of_int-fits}
use Rattle.floats.specs.Operations.{whole, f0}
use Rattle.floats.specs.Facts.{signed_int}
use Rattle.signs.specs.Signs.{absolute}
use Rattle.signs.proofs.Edges.{absolute_value}
use Rattle.floats.proofs.Values.{value_number, of_int_pos, to_signed_at, zero_over}
use Rattle.floats.proofs.Comparison.{lt_at, eq_at, le_at, equal_value}
use Rattle.floats.proofs.Wholes.{of_pos, whole_sub}
use Rattle.order.specs.Order.{f1000, too_large, below, shifted, fraction_of}
use Rattle.order.specs.Order.Open.{too_large_is, below_is, shifted_is, fraction_of_is, top_rung_is, num_is}
use Rattle.order.specs.Whole.{WholeOrder, WholeParts}
use Rattle.order.proofs.Facts.{thousand_value, shifted_at, capped, signed_size}

-- every whole number from 0 to 999 is one
pub whole_order : (m : ℕ) → m ≤ 999 → WholeOrder (whole m) m
whole_order m h =
    let v = of_int_pos binary64 m (omega arith) in
    record { most = h; same = eq_at (whole m) (whole m) false m false m 1 (zero-lt-suc 0) v v ∙ rw (is_true (eqb m m) (eqb_refl m)); fit = of_int-fits binary64 (pos m) }

module _ (v : Float) (m : ℕ) (order : WholeOrder v m) where
  room : m + 1 ≤ 2 ^ prec binary64
  room = omega (arith, order.most)

  known : (s : Bool) × HasValue v s m 1 × ((m ≡ 0) ⊎ (s ≡ false))
  known = equal_value v (whole m) false m 1 (zero-lt-suc 0) (of_int_pos binary64 m (omega (arith, order.most))) (subst T (sym order.same) tt)

  small : too_large v ≡ false
  small =
      let most : m ≤ 1000 = omega (arith, order.most) in
      let less : 1000 ≡ m → ⊥ = λ e. omega (arith, order.most) in
      too_large_is v
      ∙ le_at f1000 (absolute v) false 1000 false m 1 (zero-lt-suc 0) (thousand_value 1) (absolute_value v known.0 m 1 known.1)
      ∙ rw (le-ltb 1000 m most, ne_eqb 1000 m less)

  side : below v ≡ false
  side = below_is v ∙ lt_at v f0 known.0 m false 0 1 (zero-lt-suc 0) known.1 (zero_over 1) ∙ go known.0 known.2
    where
      go : (s : Bool) → (m ≡ 0) ⊎ (s ≡ false) → belowTest s m false 0 ≡ false
      go false h = le-ltb m 0 zero-le
      go true (inl e) = rw e refl
      go true (inr e) = absurd (subst T e tt)

  up : shifted v ≡ whole (m + 1)
  up =
      shifted_is v
      ∙ shifted_at binary64 v known.0 m 1 (zero-lt-suc 0) known.1
      ∙ ap (λ (b : Bool). round binary64 b (m + 1) 1) (sym (below_is v) ∙ side)
      ∙ of_pos binary64 (m + 1)

  up_value : HasValue (shifted v) false (m + 1) 1
  up_value = rw up (of_int_pos binary64 (m + 1) room)

  cut : (x : Float) (s : Bool) (n : ℕ) → n ≤ 1000 → HasValue x s n 1 → to_signed 31 x ≡ signed_int s n
  cut x s n h w =
      let e : n / 1 ≡ n = div-one n in
      to_signed_at 31 x s n 1 (zero-lt-suc 0) w ∙ capped s (n / 1) (rw e h) ∙ ap (signed_int s) e

  cut_up : to_signed 31 (shifted v) ≡ pos (m + 1)
  cut_up = cut (shifted v) false (m + 1) (omega (arith, order.most)) up_value

  no_fraction : fraction_of v ≡ f0
  unfolding of_int of_bits
  no_fraction = fraction_of_is v ∙ rw (cut_up, up) (whole_sub binary64 (m + 1) (m + 1) (le_refl (m + 1)) room) ∙ ap whole (sub_self (m + 1))

  -- THE PARTS of a whole order
  pub whole_parts : WholeParts v m
  whole_parts = record {
    number = value_number v known.0 m 1 known.1;
    small = small;
    side = side;
    up = up;
    no_fraction = no_fraction;
    top = top_rung_is v ∙ ap nat_abs cut_up;
    columns =
        num_is v
        ∙ ap (λ (z : ℕ). z + 3) (ap nat_abs (cut v known.0 m (omega (arith, order.most)) known.1) ∙ signed_size known.0 m);
  }
