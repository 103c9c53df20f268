-- What a format holds, in units of its smallest value, and what `round` gives: a value that the format holds stays, and none is crossed.
use Rattle.std.proofs.Common.{◌≡◌, refl, sym, ap, ◌∙◌, subst, inl, inr, ℕ, zero, suc, ◌+◌, ◌-◌, ◌*◌, ◌%◌, ◌^◌, ◌≤◌, ◌<◌}
use Rattle.std.proofs.Common.{le_trans, le_of_suc-le-suc, le_of_eq, le_of_lt, lt_of_lt_of_le}
use Rattle.std.proofs.Common.{mul-one, one-mul, zero-mul, mul_comm, mul_assoc, mul_right_comm}
use Rattle.std.proofs.Common.{mul-le-mul_right, mul-lt-mul_of_pos_right, le_of_mul-le-mul_right, lt_of_mul-lt-mul_right}
use Rattle.std.proofs.Common.{sub-add_cancel, Bool, false, not, ◌&&◌, ℤ, pos, negsuc, T, leb, ltb, eqb}
use Rattle.std.proofs.Common.{leb→le, ltb→lt, pow-add, pow_pos, Float, lt-suc_self, lt_of_le_of_lt, le-ltb}
use Rattle.std.specs.Float.{nan, inf, fin, Format}
use Rattle.std.specs.Float.Ieee.{prec, emax, low, up, down, units, round, neg, le, fits}
use Rattle.std.specs.Float.Ieee.Exact.{HasValue, units_val, round_exact}
use Rattle.std.specs.Float.Ieee.Fits.{round-fits, round_is, and_l, and_r, neg-fits}
use Rattle.std.specs.Float.Ieee.Order.{drop, kept, round_mono}
use Rattle.std.specs.Float.Ieee.Scale.{grid, overflow, finite}
use Rattle.std.proofs.Math.Pow.{pow-lt}
use Rattle.std.proofs.lemmas.Bool.{cases_lt}
use Rattle.floats.proofs.Powers.{pow_lt_back}
use Rattle.floats.specs.Facts.{Grid}
use Rattle.floats.proofs.Values.{value_unique, value_finite, cross, neg_value}
use Rattle.floats.proofs.Comparison.{values_of_le}

-- ---- a finite value that the format holds is q * 2 ^ j units

place : (l : ℕ) (e : ℤ) → down e ≤ 2 ^ l → (j : ℕ) × (up e * 2 ^ l ≡ 2 ^ j * down e)
place l (pos a) h = (a + l, sym (pow-add 2 a l) ∙ sym (mul-one (2 ^ (a + l))))
place l (negsuc a) h = (l - suc a, one-mul (2 ^ l) ∙ ap (λ (x : ℕ). 2 ^ x) (sym (sub-add_cancel (le_of_suc-le-suc (pow_lt_back (suc a) (suc l) (lt_of_le_of_lt h (pow-lt (lt-suc_self l))))))) ∙ pow-add 2 (l - suc a) (suc a))

pub on_grid : (f : Format) (x : Float) → T (fits f x) → T (finite x) → Grid f x
unfolding fits
on_grid f nan p t = absurd t
on_grid f (inf s) p t = absurd t
on_grid f (fin s zero e) p t = record {
  sign = s;
  q = 0;
  j = 0;
  small = pow_pos (prec f);
  in_range = pow_pos (low f + suc (emax f));
  value = (refl, ap (λ (z : ℕ). z * 2 ^ low f) (zero-mul (up e)) ∙ zero-mul (2 ^ low f) ∙ sym (zero-mul (down e)));
}
on_grid f (fin s (suc m) e) p t =
    let a : Bool = eqb (suc m % 2) 1 in
    let b : Bool = ltb (suc m) (2 ^ prec f) in
    let c : Bool = leb (down e) (2 ^ low f) in
    let d : Bool = ltb (suc m * up e) (2 ^ suc (emax f) * down e) in
    let l = 2 ^ low f in
    let k = place (low f) e (leb→le (down e) (2 ^ low f) (and_r (a && b) c (and_l (a && b && c) d p))) in
    let h = ltb→lt (suc m * up e) (2 ^ suc (emax f) * down e) (and_r (a && b && c) d p) in
    let v : suc m * up e * l ≡ suc m * 2 ^ k.0 * down e = mul_assoc (suc m) (up e) l ∙ ap (λ (z : ℕ). suc m * z) k.1
    ∙ sym (mul_assoc (suc m) (2 ^ k.0) (down e)) in
    record {
      sign = s;
      q = suc m;
      j = k.0;
      small = ltb→lt (suc m) (2 ^ prec f) (and_r a b (and_l (a && b) c (and_l (a && b && c) d p)));
      in_range = lt_of_mul-lt-mul_right (down e)
          (subst (λ (z : ℕ). z < 2 ^ (low f + suc (emax f)) * down e) v
          (lt_of_lt_of_le (mul-lt-mul_of_pos_right h (pow_pos (low f)))
          (le_of_eq (mul_right_comm (2 ^ suc (emax f)) (down e) l ∙ ap (λ (z : ℕ). z * down e) (mul_comm (2 ^ suc (emax f)) l ∙ sym (pow-add 2 (low f) (suc (emax f))))))));
      value = (refl, v);
    }

-- rounding a fraction that is a value of the format gives that value
pub round_back : (f : Format) (x : Float) (s : Bool) (a c : ℕ) → 0 < c → T (fits f x) → HasValue x s a c → round f s a c ≡ x
round_back f x s a c C p v =
    let g = on_grid f x p (value_finite x s a c v) in
    value_unique f (round f s a c) x s a c C (round-fits f s a c) p
    (round_exact f s a c g.q g.j C g.small g.in_range (cross x s g.sign a c (g.q * 2 ^ g.j) (2 ^ low f) v g.value))
    v

-- ---- what `round` gives: `grid f a c` units with the sign s, or from `overflow f` units on an infinity

units_inf : (f : Format) (s : Bool) (q k : ℕ) → overflow f ≤ q * 2 ^ k → units f s q k ≡ inf s
unfolding units
units_inf f s q k h = rw (le-ltb (q * 2 ^ k) (overflow f) h)

pub round_value : (f : Format) (s : Bool) (a c : ℕ) → grid f a c < overflow f → HasValue (round f s a c) s (grid f a c) (2 ^ low f)
round_value f s a c h = subst (λ (z : Float). HasValue z s (grid f a c) (2 ^ low f)) (sym (round_is f s a c)) (units_val f s (kept (prec f) (a * 2 ^ low f) c) (drop (prec f) (a * 2 ^ low f) c) h)

pub round_inf : (f : Format) (s : Bool) (a c : ℕ) → overflow f ≤ grid f a c → round f s a c ≡ inf s
round_inf f s a c h = round_is f s a c ∙ units_inf f s (kept (prec f) (a * 2 ^ low f) c) (drop (prec f) (a * 2 ^ low f) c) h

-- ---- a / c against a value b / d of the format: rounding does not cross it

pub inf_above : (y : Float) (b d : ℕ) → HasValue y false b d → T (le (inf false) y) → ⊥
unfolding le
inf_above nan b d w h = w
inf_above (inf t) b d w h = w
inf_above (fin t n e) b d w h = h

pub grid_le : (f : Format) (y : Float) (a c b d : ℕ) → 0 < c → 0 < d → T (fits f y) → HasValue y false b d → a * d ≤ b * c
    → (grid f a c < overflow f) × (grid f a c * d ≤ b * 2 ^ low f)
grid_le f y a c b d C D p w h =
    let k : T (le (round f false a c) y) = subst (λ (z : Float). T (le (round f false a c) z)) (round_back f y false b d D p w) (round_mono f a c b d C D h) in
    elim (cases_lt (grid f a c) (overflow f)) [
      | inl g ↦ (g, values_of_le (round f false a c) y (grid f a c) (2 ^ low f) b d (pow_pos (low f)) D (round_value f false a c g) w k)
      | inr g ↦ absurd (inf_above y b d w (subst (λ (z : Float). T (le z y)) (round_inf f false a c g) k))
    ]

pub grid_ge : (f : Format) (y : Float) (a c b d : ℕ) → 0 < c → 0 < d → T (fits f y) → HasValue y false b d → b * c ≤ a * d
    → b * 2 ^ low f ≤ grid f a c * d
grid_ge f y a c b d C D p w h =
    elim (cases_lt (grid f a c) (overflow f)) [
      | inl g ↦ values_of_le y (round f false a c) b d (grid f a c) (2 ^ low f) D (pow_pos (low f)) w (round_value f false a c g)
          (subst (λ (z : Float). T (le z (round f false a c))) (round_back f y false b d D p w) (round_mono f b d a c D C h))
      | inr g ↦
          let k = on_grid f y p (value_finite y false b d w) in
          le_trans (le_of_eq (cross y false k.sign b d (k.q * 2 ^ k.j) (2 ^ low f) w k.value)) (mul-le-mul_right d (le_of_lt (lt_of_lt_of_le k.in_range g)))
    ]

-- `neg` goes through `round`
neg_inf : (s : Bool) → neg (inf s) ≡ inf (not s)
unfolding neg
neg_inf s = refl

pub round_neg : (f : Format) (s : Bool) (a c : ℕ) → neg (round f s a c) ≡ round f (not s) a c
round_neg f s a c = elim (cases_lt (grid f a c) (overflow f)) [
  | inl g ↦ value_unique f (neg (round f s a c)) (round f (not s) a c) (not s) (grid f a c) (2 ^ low f) (pow_pos (low f))
      (neg-fits f (round f s a c) (round-fits f s a c)) (round-fits f (not s) a c)
      (neg_value (round f s a c) s (grid f a c) (2 ^ low f) (round_value f s a c g)) (round_value f (not s) a c g)
  | inr g ↦ ap neg (round_inf f s a c g) ∙ neg_inf s ∙ sym (round_inf f (not s) a c g)
]

-- a / c ≤ b / d: where the larger does not overflow, the smaller does not, and has no more units
pub grid_mono : (f : Format) (a c b d : ℕ) → 0 < c → 0 < d → a * d ≤ b * c → grid f b d < overflow f
    → (grid f a c < overflow f) × (grid f a c ≤ grid f b d)
grid_mono f a c b d C D h g =
    let k = round_mono f a c b d C D h in
    let w = round_value f false b d g in
    elim (cases_lt (grid f a c) (overflow f)) [
      | inl i ↦ (i, le_of_mul-le-mul_right (values_of_le (round f false a c) (round f false b d) (grid f a c) (2 ^ low f) (grid f b d) (2 ^ low f) (pow_pos (low f)) (pow_pos (low f)) (round_value f false a c i) w k) (pow_pos (low f)))
      | inr i ↦ absurd (inf_above (round f false b d) (grid f b d) (2 ^ low f) w (subst (λ (z : Float). T (le z (round f false b d))) (round_inf f false a c i) k))
    ]
