-- DLMF 12.10, as 01 writes it ("Off the ladder's path"): the polynomials u_s, v_s and r_s in t.
-- (t² − 1)u'_s − 3·s·t·u_s = r_(s−1)      8r_s = (3t² + 2)u_s − 12(s + 1)·t·r_(s−1) + 4(t² − 1)r'_(s−1)
-- u_0 = 1      r_(−1) = 0
--   v_s = u_s + ½t·u_(s−1) − r_(s−2)        degree 3s (odd s) or 3s − 2 (even s ≥ 2)
-- The definition solves the first equation for u_s, one coefficient after another; `Obeys` says that what it gives
-- obeys the equation (`table_right`, proofs/Rule.antt, proves that for s up to 10).
use Rattle.std.specs.Prelude.{Bool, ◌&&◌, List, [], ◌∷◌, ◌++◌, ℕ, zero, suc, ◌+◌, ◌*◌, ◌-◌, ◌/◌, ◌%◌, pos, get_or, drop}
use Rattle.expansion_coefficients.specs.Fractions.{Fraction, over, whole, plus, times, minus, by, Polynomial}
use Rattle.expansion_coefficients.specs.Fractions.{coefficient, sum, scale, difference, shift, by_t²_1, by3_t²+2}
use Rattle.expansion_coefficients.specs.Fractions.{derivative, is_zero}

-- ---- the solution

-- s odd: at t^(p−1), p = 1, 3, .. 3s, the equation reads p·a_p + (3s + 2 − p)·a_(p−2) = −r_(p−1), a_k being the
-- coefficient of t^k in u_s
abbrev pub upward : ℕ → ℕ → ℕ → Fraction → Polynomial → Polynomial
upward zero s p a r = []
upward (suc n) s p a r =
    let b = minus (by (plus (times (whole (3 * s + 2 - p)) a) (coefficient r (p - 1))) p) in
    whole 0 ∷ b ∷ upward n s (p + 2) b r

-- s even: at t^(k+1), k = 2n, it reads (3s − k)·a_k + (k + 2)·a_(k+2) = −r_(k+1). There is no term in t^(3s): that is
-- what the degree 3s − 2 says
abbrev pub downward : ℕ → ℕ → Fraction → Polynomial → Polynomial → Polynomial
downward zero s a r p = p
downward (suc n) s a r p =
    let b = minus (by (plus (coefficient r (2 * n + 1)) (times (whole (2 * n + 2)) a)) (3 * s - 2 * n)) in
    downward n s b r (b ∷ whole 0 ∷ p)

-- by the remainder of s modulo 2
abbrev pub solved_by : ℕ → ℕ → Polynomial → Polynomial
solved_by zero s r = downward (3 * s / 2) s (whole 0) r []
solved_by (suc o) s r = upward ((3 * s + 1) / 2) s 1 (whole 0) r

abbrev pub solved : ℕ → Polynomial → Polynomial
solved s r = solved_by (s % 2) s r

-- ---- the polynomials

-- u_s and r_s
pub data Row : Type 0 where
  row : Polynomial → Polynomial → Row

-- 8r_s = (3t² + 2)u_s − 12(s + 1)·t·r_(s−1) + 4(t² − 1)r'_(s−1)
abbrev pub next_r : ℕ → Polynomial → Polynomial → Polynomial
next_r s u r =
    scale (over (pos 1) 8)
    (sum (difference (by3_t²+2 u) (scale (whole (12 * suc s)) (shift r))) (scale (whole 4) (by_t²_1 (derivative r))))

abbrev pub row_by : ℕ → Polynomial → Polynomial → Row
row_by s u r = row u (next_r s u r)

abbrev pub next_row : ℕ → Row → Row
next_row s (row u r) = row_by s (solved s r) r

abbrev pub row_at : ℕ → Row
row_at zero = row_by 0 (whole 1 ∷ []) []
row_at (suc s) = next_row (suc s) (row_at s)

abbrev pub first_of : Row → Polynomial
first_of (row u r) = u

abbrev pub second_of : Row → Polynomial
second_of (row u r) = r

abbrev pub u : ℕ → Polynomial
u s = first_of (row_at s)

abbrev pub r : ℕ → Polynomial
r s = second_of (row_at s)

-- u_(s−1), r_(s−1) and r_(s−2), which are 0 below index 0
abbrev pub before : (ℕ → Polynomial) → ℕ → Polynomial
before p zero = []
before p (suc s) = p s

abbrev pub v : ℕ → Polynomial
v s = difference (sum (u s) (scale (over (pos 1) 2) (shift (before u s)))) (before (before r) s)

-- ---- the equation, the degrees and the parities

abbrev pub degree_by : ℕ → ℕ → ℕ
degree_by zero s = 3 * s - 2
degree_by (suc o) s = 3 * s

abbrev pub degree : ℕ → ℕ
degree s = degree_by (s % 2) s

-- the coefficients of t, t³, .. for an even s, of 1, t², .. for an odd one
abbrev pub others : ℕ → Polynomial → Polynomial
others zero [] = []
others zero (x ∷ p) = others 1 p
others (suc o) [] = []
others (suc o) (x ∷ p) = x ∷ others 0 p

-- (t² − 1)u'_s − 3·s·t·u_s − r_(s−1) is 0
abbrev pub equation : ℕ → Bool
equation s =
    is_zero (difference (difference (by_t²_1 (derivative (u s))) (scale (whole (3 * s)) (shift (u s)))) (before r s))

-- no term above the degree, and none of the other parity
abbrev pub shaped : ℕ → Polynomial → Bool
shaped s p = is_zero (drop (suc (degree s)) p) && is_zero (others (s % 2) p)

abbrev pub obeys : ℕ → Bool
obeys s = equation s && shaped s (u s) && shaped s (v s)

-- ---- the table's form: every second coefficient, from the highest power down

abbrev pub count : ℕ → ℕ
count s = suc (degree s / 2)

abbrev pub from_highest : ℕ → ℕ → Polynomial → List Fraction
from_highest zero k p = []
from_highest (suc n) k p = coefficient p k ∷ from_highest n (k - 2) p

abbrev pub rows_of : (ℕ → Polynomial) → ℕ → ℕ → List Fraction
rows_of p zero s = []
rows_of p (suc n) s = from_highest (count s) (degree s) (p s) ++ rows_of p n (suc s)

-- u_0 to u_10, then v_0 to v_10
unfoldable pub fractions : List Fraction
fractions = rows_of u 11 0 ++ rows_of v 11 0

-- what entry i of the table stands for
abbrev pub fraction_at : ℕ → Fraction
fraction_at i = get_or fractions i (whole 0)
