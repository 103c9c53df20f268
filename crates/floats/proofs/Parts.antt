-- The whole part and the fraction of a value of size 1 or more: both are exact, and their sum is the value.
use Rattle.std.proofs.Common.{◌≡◌, refl, sym, ap, ◌∙◌, subst, inl, inr, ℕ, ◌+◌, ◌-◌, ◌*◌, ◌/◌, ◌%◌, ◌^◌, ◌≤◌, ◌<◌}
use Rattle.std.proofs.Common.{le_trans, le_of_eq, le_of_lt, lt_of_le_of_lt, zero-lt-suc, mul-one, one-mul}
use Rattle.std.proofs.Common.{mul-pos, sub-add_cancel, div-add-mod', div-mul-le_self, le-div_iff_mul-le, mul-div_cancel}
use Rattle.std.proofs.Common.{add-zero, arith, Bool, true, false, ◌&&◌, T, ltb, ltb→lt, lt→ltb}
use Rattle.std.proofs.Common.{pow-add, pow_pos, Float, le-ltb, lt-ltb, zero, suc, zero-le}
use Rattle.std.specs.Float.{Format}
use Rattle.std.specs.Float.Ieee.{prec, low, round, sum, add, sub, fits, of_int}
use Rattle.std.specs.Float.Ieee.Exact.{HasValue, round_exact}
use Rattle.std.proofs.Math.Nat.{eq_of_mul-eq-mul_right, mod-eq-sub-div-mul, mod-le, mul-mod_left, sub-zero}
use Rattle.std.specs.Float.Ieee.Scale.{overflow}
use Rattle.std.proofs.Math.Arith.{mod-mul}
use Rattle.std.proofs.lemmas.Bool.{cases_lt}
use Rattle.floats.proofs.Powers.{shl_split}
use Rattle.floats.specs.Facts.{signed_int}
use Rattle.floats.proofs.Booleans.{same_test}
use Rattle.floats.proofs.Values.{value_finite, cross, rescale, of_int_value}
use Rattle.floats.proofs.Arithmetic.{add_at, sub_at, sum_minus}
use Rattle.floats.proofs.Rounding.{on_grid, round_back}

-- what is left of q * 2 ^ j after its multiples of 2 ^ l is such a number again
pub mod_rep : (q j l : ℕ) → (k : ℕ) × (i : ℕ) × (k ≤ q) × (q * 2 ^ j % 2 ^ l ≡ k * 2 ^ i)
mod_rep q j l = elim (cases_lt j l) [
  | inl a ↦ (
    q % 2 ^ (l - j),
    j,
    mod-le q (2 ^ (l - j)),
    ap (λ (z : ℕ). q * 2 ^ j % 2 ^ z) (sym (sub-add_cancel (le_of_lt a)))
        ∙ ap (λ (z : ℕ). q * 2 ^ j % z) (pow-add 2 (l - j) j)
        ∙ mod-mul (q * 2 ^ j) (pow_pos (l - j)) (pow_pos j)
        ∙ ap (λ (z : ℕ). z % 2 ^ (l - j) * 2 ^ j + q * 2 ^ j % 2 ^ j) (mul-div_cancel q (pow_pos j))
        ∙ ap (λ (z : ℕ). q % 2 ^ (l - j) * 2 ^ j + z) (mul-mod_left q (2 ^ j))
        ∙ add-zero (q % 2 ^ (l - j) * 2 ^ j),
  )
  | inr b ↦ (
    0,
    0,
    zero-le,
    ap (λ (z : ℕ). z % 2 ^ l) (shl_split q j l b) ∙ mul-mod_left (q * 2 ^ (j - l)) (2 ^ l),
  )
]

-- a is below a + r exactly where r is above 0
more_test : (a r w : ℕ) → a + r ≡ w → ltb a w ≡ ltb 0 r
more_test a r w e = same_test (ltb a w) (ltb 0 r) (λ x. lt→ltb 0 r (omega (arith, ltb→lt a w x))) (λ x. lt→ltb a w (omega (arith, ltb→lt 0 r x)))

-- ---- a value u of U units, of which 2 ^ low make 1, and 1 at least in size: U / 2 ^ low is its whole part, U % 2 ^ low the units of its fraction

module _ (f : Format) (t : Bool) (U : ℕ) (u : Float) (fit : T (fits f u)) (val : HasValue u t U (2 ^ low f)) (ge : 2 ^ low f ≤ U) (few : U / 2 ^ low f ≤ 2 ^ prec f) where
  n_pos : 0 < U / 2 ^ low f
  n_pos = (le-div_iff_mul-le (pow_pos (low f))).1 (le_trans (le_of_eq (one-mul (2 ^ low f))) ge)

  -- the whole part as a float
  pub whole_value : HasValue (of_int f (signed_int t (U / 2 ^ low f))) t (U / 2 ^ low f * 2 ^ low f) (2 ^ low f)
  whole_value =
      let n = U / 2 ^ low f in
      rescale (of_int f (signed_int t n)) t n 1 (n * 2 ^ low f) (2 ^ low f) (zero-lt-suc 0) (sym (mul-one (n * 2 ^ low f))) (of_int_value f t n n_pos few)

  pub part_is : sub f u (of_int f (signed_int t (U / 2 ^ low f))) ≡ round f (t && ltb (U / 2 ^ low f * 2 ^ low f) U) (U % 2 ^ low f) (2 ^ low f)
  part_is =
      let n = U / 2 ^ low f in
      let l = 2 ^ low f in
      sub_at f u (of_int f (signed_int t n)) t U t (n * l) l (pow_pos (low f)) val whole_value
      ∙ sum_minus f t U (n * l) l (div-mul-le_self U l)
      ∙ ap (λ (z : ℕ). round f (t && ltb (n * l) U) z l) (sym (mod-eq-sub-div-mul U l))

  -- the fraction is exact
  pub part_value : HasValue (sub f u (of_int f (signed_int t (U / 2 ^ low f)))) (t && ltb 0 (U % 2 ^ low f)) (U % 2 ^ low f) (2 ^ low f)
  part_value =
      let l = 2 ^ low f in
      let g = on_grid f u fit (value_finite u t U l val) in
      let e : U ≡ g.q * 2 ^ g.j = eq_of_mul-eq-mul_right l (pow_pos (low f)) U (g.q * 2 ^ g.j) (cross u t g.sign U l (g.q * 2 ^ g.j) l val g.value) in
      let k = mod_rep g.q g.j (low f) in
      let d : U % l ≡ k.0 * 2 ^ k.1 = ap (λ (z : ℕ). z % l) e ∙ k.3 in
      subst (λ (z : Float). HasValue z (t && ltb 0 (U % l)) (U % l) l) (sym part_is)
      (subst (λ (z : Bool). HasValue (round f (t && z) (U % l) l) (t && ltb 0 (U % l)) (U % l) l) (sym (more_test (U / l * l) (U % l) U (div-add-mod' U l)))
      (round_exact f (t && ltb 0 (U % l)) (U % l) l k.0 k.1 (pow_pos (low f)) (lt_of_le_of_lt k.2 g.small)
      (subst (λ (z : ℕ). z < overflow f) d (lt_of_le_of_lt (mod-le U l) (subst (λ (z : ℕ). z < overflow f) (sym e) g.in_range)))
      (ap (λ (z : ℕ). z * l) d)))

-- a plus r with a's sign, or +0 where r is 0
pub sum_rejoin : (f : Format) (t : Bool) (a r c : ℕ) → 0 < a → sum f t a (t && ltb 0 r) r c ≡ round f t (a + r) c
unfolding sum
sum_rejoin f false a r c p = refl
sum_rejoin f true a zero c p = rw (le-ltb a 0 zero-le, lt-ltb 0 a p, sub-zero a, add-zero a)
sum_rejoin f true a (suc r) c p = rw (lt-ltb 0 (suc r) (zero-lt-suc r))

-- the whole part and the fraction, added, are the value again
pub rejoin : (f : Format) (t : Bool) (U : ℕ) (u : Float) → T (fits f u) → HasValue u t U (2 ^ low f) → 2 ^ low f ≤ U → U / 2 ^ low f ≤ 2 ^ prec f
    → add f (of_int f (signed_int t (U / 2 ^ low f))) (sub f u (of_int f (signed_int t (U / 2 ^ low f)))) ≡ u
rejoin f t U u fit val ge few =
    let l = 2 ^ low f in
    let n = U / l in
    add_at f (of_int f (signed_int t n)) (sub f u (of_int f (signed_int t n))) t (n * l) (t && ltb 0 (U % l)) (U % l) l (pow_pos (low f)) (whole_value f t U u fit val ge few) (part_value f t U u fit val ge few)
    ∙ sum_rejoin f t (n * l) (U % l) l (mul-pos (n_pos f t U u fit val ge few) (pow_pos (low f)))
    ∙ ap (λ (z : ℕ). round f t z l) (div-add-mod' U l)
    ∙ round_back f u t U l (pow_pos (low f)) fit val
