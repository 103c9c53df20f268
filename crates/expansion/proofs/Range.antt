-- The argument of `lgam_stirling_corr` is 13 or more: bounds of the order go through the two operations.
use Rattle.std.proofs.Common.{◌≡◌, refl, sym, ◌∙◌, subst, Bool, true, false, ℕ, ◌*◌, arith, ltb-true, T, lit≤, lit<, ℤ}
use Rattle.std.proofs.Common.{Float}
use Rattle.std.specs.Float.Ieee.{nan, inf, fin, binary64, up, down, lt, le, neg, of_bits}
use Rattle.std.specs.Float.Ieee.Bits.{is_true}
use Rattle.std.specs.Float.Ieee.Exact.{HasValue}
use Rattle.std.specs.Float.Ieee.Fits.{down_pos}
use Rattle.floats.specs.Operations.{f½}
use Rattle.floats.specs.Facts.{Between, SignedLe}
use Rattle.floats.proofs.Values.{own_value}
use Rattle.floats.proofs.Arithmetic.{sub_is}
use Rattle.floats.proofs.Comparison.{lt_at, le_at, signed_le_of_test, test_of_signed_le}
use Rattle.floats.proofs.Bounds.{value_between, neg_between, plus_between, apart_between}
use Rattle.near.proofs.NearRange.{half_value}
use Rattle.expansion.specs.Constants.{order_limit, f20}
use Rattle.expansion_elementary.specs.Mantissas.{parameter}
use Rattle.expansion.specs.Expansion.Open.{in_range_law}
use Rattle.expansion.specs.Range.{f13, stirling_argument, Accepted, Near}

thirteen_value : (c : ℕ) → HasValue f13 false (13 * c) c
unfolding of_bits
thirteen_value c = (refl, omega arith)

at_least_13 : (y : Float) (u : ℕ) → Between y false 28 u 2 → le f13 y ≡ true
at_least_13 y u b =
    is_true (le f13 y) (subst T (sym (le_at f13 y false (13 * b.over) false b.size b.over b.positive (thirteen_value b.over) b.value))
    (test_of_signed_le false (13 * b.over) false b.size (omega (arith, b.least))))

pub stirling_argument_near : Near
stirling_argument_near v b =
    at_least_13 (stirling_argument v) 4294967297
    (plus_between (parameter v) f½ false 27 4294967296 2 1 2 28 4294967297 1 (lit< tt) (lit< tt) (lit< tt) (lit< tt) (lit≤ tt)
    (rw (sub_is binary64 (neg v) f½)
    (apart_between (neg v) (neg f½) false 28 4294967296 1 1 27 4294967296 1 (lit< tt) (lit< tt) (lit< tt) (lit≤ tt)
    (neg_between v true 28 4294967296 2 b) (neg_between f½ false 1 1 2 (value_between f½ false 1 2 (lit< tt) half_value)) (lit≤ tt) (lit≤ tt)))
    half_value (lit≤ tt) (lit≤ tt))

-- an order that the tests let pass
twenty_value : (c : ℕ) → HasValue (neg f20) true (20 * c) c
unfolding of_bits neg
twenty_value c = (refl, omega arith)

beyond_value : (c : ℕ) → HasValue (neg order_limit) true (2147483648 * c) c
unfolding of_bits neg
beyond_value c = (refl, omega arith)

kept_finite : (s : Bool) (m : ℕ) (e : ℤ) → lt (neg order_limit) (fin s m e) ≡ true → SignedLe s (m * up e) true (20 * down e) → Between (fin s m e) true 28 4294967296 2
kept_finite false m e p (a, b) = absurd (let c = down_pos e in omega arith)
kept_finite true m e p q =
    let r = ltb-true (m * up e) (2147483648 * down e)
    (sym (lt_at (neg order_limit) (fin true m e) true (2147483648 * down e) true (m * up e) (down e) (down_pos e) (beyond_value (down e)) (own_value true m e)) ∙ p) in
    record { size = m * up e; over = down e; positive = down_pos e; value = own_value true m e; least = omega arith; most = omega arith }

kept : (v : Float) → lt (neg order_limit) v ≡ true → le v (neg f20) ≡ true → Between v true 28 4294967296 2
unfolding lt le neg of_bits
kept nan p q = absurd (subst T (sym p) tt)
kept (inf true) p q = absurd (subst T (sym p) tt)
kept (inf false) p q = absurd (subst T (sym q) tt)
kept (fin s m e) p q =
    kept_finite s m e p
    (signed_le_of_test s (m * up e) true (20 * down e)
    (subst T (sym q ∙ le_at (fin s m e) (neg f20) s (m * up e) true (20 * down e) (down e) (down_pos e) (own_value s m e) (twenty_value (down e))) tt))

pub stirling_argument_law : Accepted
stirling_argument_law v x h = let r = in_range_law v x h in stirling_argument_near v (kept v r.0 r.1)
