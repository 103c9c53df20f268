-- Exact fractions, a whole number over a number above 0, in lowest terms (`same_value`, proofs/Lowest.antt, says that
-- these are the same number); and polynomials in t over them, from the lowest power up.
use Rattle.std.specs.Prelude.{Bool, true, ◌&&◌, List, [], ◌∷◌, ℕ, zero, suc, ◌*◌, ◌/◌, ◌%◌, eqb, ℤ, pos, negsuc, neg_ℤ, nat_abs, ◌+ℤ◌, ◌*ℤ◌}

-- ---- fractions

pub data Fraction : Type 0 where
  over : ℤ → ℕ → Fraction

abbrev pub numerator : Fraction → ℤ
numerator (over a b) = a

abbrev pub denominator : Fraction → ℕ
denominator (over a b) = b

-- the greatest common divisor, by at most n of Euclid's steps
abbrev pub divisor : ℕ → ℕ → ℕ → ℕ
divisor zero a b = a
divisor (suc n) a zero = a
divisor (suc n) a (suc b) = divisor n (suc b) (a % suc b)

abbrev pub divided : ℤ → ℕ → ℤ
divided (pos a) d = pos (a / d)
divided (negsuc a) d = neg_ℤ (pos (suc a / d))

abbrev pub divided_both : ℤ → ℕ → ℕ → Fraction
divided_both a b d = over (divided a d) (b / d)

-- a / b in lowest terms
abbrev pub lowest : ℤ → ℕ → Fraction
lowest a b = divided_both a b (divisor (suc b) (nat_abs a) b)

abbrev pub whole : ℕ → Fraction
whole n = over (pos n) 1

abbrev pub plus : Fraction → Fraction → Fraction
plus (over a b) (over c d) = lowest (a *ℤ pos d +ℤ c *ℤ pos b) (b * d)

abbrev pub times : Fraction → Fraction → Fraction
times (over a b) (over c d) = lowest (a *ℤ c) (b * d)

abbrev pub minus : Fraction → Fraction
minus (over a b) = over (neg_ℤ a) b

-- x / n
abbrev pub by : Fraction → ℕ → Fraction
by (over a b) n = lowest a (b * n)

-- ---- polynomials

abbrev pub Polynomial : Type 0
Polynomial = List Fraction

-- the coefficient of t^k
abbrev pub coefficient : Polynomial → ℕ → Fraction
coefficient [] k = whole 0
coefficient (x ∷ p) zero = x
coefficient (x ∷ p) (suc k) = coefficient p k

abbrev pub sum : Polynomial → Polynomial → Polynomial
sum [] q = q
sum (x ∷ p) [] = x ∷ p
sum (x ∷ p) (y ∷ q) = plus x y ∷ sum p q

abbrev pub scale : Fraction → Polynomial → Polynomial
scale c [] = []
scale c (x ∷ p) = times c x ∷ scale c p

abbrev pub difference : Polynomial → Polynomial → Polynomial
difference p q = sum p (scale (minus (whole 1)) q)

-- t·p
abbrev pub shift : Polynomial → Polynomial
shift p = whole 0 ∷ p

-- (t² − 1)·p and (3t² + 2)·p
abbrev pub by_t²_1 : Polynomial → Polynomial
by_t²_1 p = difference (shift (shift p)) p

abbrev pub by3_t²+2 : Polynomial → Polynomial
by3_t²+2 p = sum (scale (whole 3) (shift (shift p))) (scale (whole 2) p)

-- the derivative: the coefficient of t^k times k, one power down
abbrev pub derivative_from : ℕ → Polynomial → Polynomial
derivative_from k [] = []
derivative_from k (x ∷ p) = times (whole k) x ∷ derivative_from (suc k) p

abbrev pub derivative : Polynomial → Polynomial
derivative [] = []
derivative (x ∷ p) = derivative_from 1 p

-- no coefficient other than 0
abbrev pub is_zero : Polynomial → Bool
is_zero [] = true
is_zero (x ∷ p) = eqb (nat_abs (numerator x)) 0 && is_zero p
