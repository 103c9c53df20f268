-- The significand and the exponent of a float above 0, by its bit pattern. N * 2 ^ e has the `size N` digits of N and is N * 2 ^ E units of 2 ^ -1074.
-- Its pattern has the 53 digits N * 2 ^ (53 - size N), and its field says how many places lie below them.
use Rattle.std.proofs.Common.{◌≡◌, refl, sym, ap, ◌∙◌, subst, Bool, true, false, ◌&&◌, ℕ, zero, suc, ◌+◌, ◌-◌, ◌*◌, ◌/◌}
use Rattle.std.proofs.Common.{◌%◌, ◌^◌, ◌<◌, ◌≤◌, lt_of_lt_of_le, lt_of_le_of_lt, le_trans}
use Rattle.std.proofs.Common.{le_of_lt, mul-le-mul_right, mul-le-mul_left, div-one, mul-one, zero-add, arith}
use Rattle.std.proofs.Common.{ltb-true, ltb-false, leb-true, leb-false, lt-ltb, le-ltb, T, ltb, leb, eqb, lt→ltb}
use Rattle.std.proofs.Common.{le→leb, ltb→lt, leb→le, eqb→eq, lit<, lit≤, ℤ, pos, negsuc, neg_ℤ, ◌+ℤ◌, ◌-ℤ◌, pow_pos}
use Rattle.std.proofs.Common.{pow_mono, pow-add, shl_lt}
use Rattle.std.specs.Float.{Float, fin, binary64}
use Rattle.std.specs.Float.Ieee.{size, up, down, to_bits, of_bits, of_int, fits}
use Rattle.std.proofs.Math.IntN.{sub_ℕ}
use Rattle.std.proofs.Math.Pow.{shl-shr}
use Rattle.std.specs.Float.Ieee.Bits.{of_bits-to_bits}
use Rattle.std.specs.Float.Ieee.Fits.{and_i, and_l, and_r, eq→eqb, of_int-fits}
use Rattle.std.specs.Float.Ieee.Back.{whole_unique}
use Rattle.std.specs.Float.Ieee.Digits.{size-lt, size-le, size_reaches}
use Rattle.floats.proofs.Powers.{pow_lt_back, shl_shl, shl_split}
use Rattle.floats.proofs.Values.{of_int_pos}

size_pos : (N : ℕ) → 0 < N → 0 < size N
size_pos N p = pow_lt_back 0 (size N) (lt_of_le_of_lt p (size-lt N))

-- the top digit
top_digit : (N : ℕ) → 0 < N → 2 ^ (size N - 1) ≤ N
top_digit N p = let h = size_pos N p in size_reaches N (size N - 1) (omega arith)

size_shift : (N j : ℕ) → 0 < N → size (N * 2 ^ j) ≡ size N + j
size_shift N j p =
    let h = size_pos N p in
    let a = size-le (N * 2 ^ j) (size N + j) (shl_lt (size N) j (size-lt N)) in
    let t = lt_of_le_of_lt (mul-le-mul_right (2 ^ j) (top_digit N p)) (size-lt (N * 2 ^ j)) in
    let b = pow_lt_back (size N - 1 + j) (size (N * 2 ^ j)) (rw (pow-add 2 (size N - 1) j) t) in
    omega arith

-- its 53 digits
abbrev whole : ℕ → ℕ
whole N = N * 2 ^ (53 - size N)

whole_low : (N : ℕ) → 0 < N → size N ≤ 53 → 2 ^ 52 ≤ whole N
whole_low N p q =
    let h = size_pos N p in
    let e : size N - 1 + (53 - size N) ≡ 52 = omega arith in
    subst (λ (k : ℕ). 2 ^ k ≤ whole N) e (rw (pow-add 2 (size N - 1) (53 - size N)) (mul-le-mul_right (2 ^ (53 - size N)) (top_digit N p)))

whole_high : (N : ℕ) → size N ≤ 53 → whole N < 2 ^ 53
whole_high N q =
    let e : size N + (53 - size N) ≡ 53 = omega arith in
    subst (λ (k : ℕ). whole N < 2 ^ k) e (shl_lt (size N) (53 - size N) (size-lt N))

-- the pattern of N * 2 ^ E units, where that has 53 digits or more
abbrev kept : ℕ → ℕ → ℕ
kept n k = 0 + k * 2 ^ 52 + n / 2 ^ k

pattern : (N E : ℕ) → 0 < N → size N ≤ 53 → 53 ≤ size N + E → kept (N * 2 ^ E) (size (N * 2 ^ E) - 53) ≡ (size N + E - 53) * 2 ^ 52 + whole N
pattern N E p q e =
    let k = size N + E - 53 in
    let f : 53 - size N + k ≡ E = omega arith in
    rw (size_shift N E p, zero-add (k * 2 ^ 52))
    (ap (λ (x : ℕ). k * 2 ^ 52 + x)
    (subst (λ (j : ℕ). N * 2 ^ j / 2 ^ k ≡ whole N) f (rw (← shl_shl N (53 - size N) k) (shl-shr (whole N) k))))

-- the exponent in units
abbrev place : ℤ → ℕ
place (pos a) = a + 1074
place (negsuc a) = 1074 - suc a

-- the exponent reaches no lower than the smallest value
abbrev Above : ℤ → Type 0
Above (pos a) = Unit
Above (negsuc a) = suc a ≤ 1074

magnitude : (N : ℕ) (e : ℤ) → Above e → N * up e * 2 ^ 1074 / down e ≡ N * 2 ^ place e
magnitude N (pos a) h = div-one (N * 2 ^ a * 2 ^ 1074) ∙ shl_shl N a 1074
magnitude N (negsuc a) h = rw (mul-one N) (ap (λ (x : ℕ). x / 2 ^ suc a) (shl_split N 1074 (suc a) h) ∙ shl-shr (N * 2 ^ (1074 - suc a)) (suc a))

to_bits_law : (N : ℕ) (e : ℤ) → 0 < N → size N ≤ 53 → Above e → 53 ≤ size N + place e → to_bits binary64 (fin false N e) ≡ (size N + place e - 53) * 2 ^ 52 + whole N
unfolding to_bits
to_bits_law N e p q h k = rw (magnitude N e h) (pattern N (place e) p q k)

-- the float N * 2 ^ (1 - size N), from 1 to below 2
abbrev digits_of : ℕ → Float
digits_of N = fin false N (neg_ℤ (pos (size N - 1)))

low_place : (k : ℕ) → k ≤ 52 → Above (neg_ℤ (pos k)) × (place (neg_ℤ (pos k)) ≡ 1074 - k)
low_place zero h = (tt, refl)
low_place (suc k) h = (omega arith, refl)

-- a pattern with those digits, its field made 1023
digits : (N u k : ℕ) → 0 < N → size N ≤ 53 → T (fits binary64 (digits_of N)) → u ≡ k * 2 ^ 52 + whole N → of_bits binary64 (u % 2 ^ 52 + 1023 * 2 ^ 52) ≡ digits_of N
digits N u k p q f e =
    let h = size_pos N p in
    let l = whole_low N p q in
    let m = whole_high N q in
    let d = low_place (size N - 1) (omega arith) in
    let i : size N + place (neg_ℤ (pos (size N - 1))) - 53 ≡ 1022 = omega (arith, d.1) in
    let t : to_bits binary64 (digits_of N) ≡ 1022 * 2 ^ 52 + whole N =
    to_bits_law N (neg_ℤ (pos (size N - 1))) p q d.0 (omega (arith, d.1)) ∙ ap (λ (x : ℕ). x * 2 ^ 52 + whole N) i in
    let r : u % 2 ^ 52 + 1023 * 2 ^ 52 ≡ 1022 * 2 ^ 52 + whole N = omega arith in
    ap (λ (x : ℕ). of_bits binary64 x) (r ∙ sym t) ∙ of_bits-to_bits binary64 (digits_of N) f

field : (N u k : ℕ) → 0 < N → size N ≤ 53 → u ≡ k * 2 ^ 52 + whole N → u / 2 ^ 52 ≡ suc k
field N u k p q e = let l = whole_low N p q in let m = whole_high N q in omega arith

-- ---- the exponent

sub_same : (x y x' y' : ℕ) → x + y' ≡ x' + y → sub_ℕ x y ≡ sub_ℕ x' y'
sub_same x y x' y' e = go (ltb x y) refl
  where
    go : (b : Bool) → ltb x y ≡ b → sub_ℕ x y ≡ sub_ℕ x' y'
    go true t =
        let h = ltb-true x y t in
        let d : y - suc x ≡ y' - suc x' = omega arith in
        rw (t, lt-ltb x' y' (omega arith), d)
    go false t =
        let h = ltb-false x y t in
        let d : x - y ≡ x' - y' = omega arith in
        rw (t, le-ltb x' y' (omega arith), d)

same_exponent : (x y S : ℕ) (e : ℤ) → Above e → 0 < S → x + 1075 ≡ place e + S + suc y → pos x -ℤ pos (suc y) ≡ e +ℤ pos (S - 1)
same_exponent x y S (pos a) h p e = let d : x - suc y ≡ a + (S - 1) = omega arith in rw (le-ltb x (suc y) (omega arith), d)
same_exponent x y S (negsuc a) h p e = sub_same x (suc y) (S - 1) (suc a) (omega arith)

-- ---- what `fits` says

make_fits : (n : ℕ) (e : ℤ) → suc n % 2 ≡ 1 → suc n < 2 ^ 53 → down e ≤ 2 ^ 1074 → suc n * up e < 2 ^ 1024 * down e → T (fits binary64 (fin false (suc n) e))
unfolding fits
make_fits n e a b c d =
    and_i (eqb (suc n % 2) 1 && ltb (suc n) (2 ^ 53) && leb (down e) (2 ^ 1074)) (ltb (suc n * up e) (2 ^ 1024 * down e))
    (and_i (eqb (suc n % 2) 1 && ltb (suc n) (2 ^ 53)) (leb (down e) (2 ^ 1074))
    (and_i (eqb (suc n % 2) 1) (ltb (suc n) (2 ^ 53)) (eq→eqb a) (lt→ltb (suc n) (2 ^ 53) b)) (le→leb (down e) (2 ^ 1074) c))
    (lt→ltb (suc n * up e) (2 ^ 1024 * down e) d)

record Fitted (n : ℕ) (e : ℤ) : Type 0 where
  odd : suc n % 2 ≡ 1
  short : suc n < 2 ^ 53
  above : Above e

is_above : (e : ℤ) → down e ≤ 2 ^ 1074 → Above e
is_above (pos a) h = tt
is_above (negsuc a) h = let k = pow_lt_back (suc a) 1075 (lt_of_le_of_lt h (lit< tt)) in omega arith

fitted : (n : ℕ) (e : ℤ) → T (fits binary64 (fin false (suc n) e)) → Fitted n e
unfolding fits
fitted n e t =
    let A = eqb (suc n % 2) 1 in
    let B = ltb (suc n) (2 ^ 53) in
    let C = leb (down e) (2 ^ 1074) in
    let abc = and_l (A && B && C) (ltb (suc n * up e) (2 ^ 1024 * down e)) t in
    let ab = and_l (A && B) C abc in
    record {
      odd = eqb→eq (suc n % 2) 1 (and_l A B ab);
      short = ltb→lt (suc n) (2 ^ 53) (and_r A B ab);
      above = is_above e (leb→le (down e) (2 ^ 1074) (and_r (A && B) C abc));
    }

down_neg : (k : ℕ) → (down (neg_ℤ (pos k)) ≡ 2 ^ k) × (up (neg_ℤ (pos k)) ≡ 1)
down_neg zero = (refl, refl)
down_neg (suc k) = (refl, refl)

digits_fit : (n : ℕ) (e : ℤ) → Fitted n e → T (fits binary64 (digits_of (suc n)))
digits_fit n e f =
    let k = size (suc n) - 1 in
    let d = down_neg k in
    let s = size-le (suc n) 53 f.short in
    let m = pow_mono {i = k} {j = 1074} (omega arith) in
    let p = pow_pos k in
    let b = f.short in
    make_fits n (neg_ℤ (pos k)) f.odd b (rw d.0 m) (rw (d.0, d.1, mul-one (suc n)) (lt_of_lt_of_le b (le_trans (lit≤ tt) (mul-le-mul_left (2 ^ 1024) p))))

-- ---- a float above 0, by the pattern u

pub record Parts (u bias N : ℕ) (e : ℤ) : Type 0 where
  pub significand : of_bits binary64 (u % 2 ^ 52 + 1023 * 2 ^ 52) ≡ fin false N (neg_ℤ (pos (size N - 1)))
  pub exponent : pos (u / 2 ^ 52) -ℤ pos bias ≡ e +ℤ pos (size N - 1)

-- from the pattern of N * 2 ^ g, where g lies as far above e as the bias above 1023
parts : (n : ℕ) (e g : ℤ) (y : ℕ) → Fitted n e → Above g → 53 ≤ size (suc n) + place g → place g + 1023 ≡ place e + suc y
    → Parts (to_bits binary64 (fin false (suc n) g)) (suc y) (suc n) e
parts n e g y f h l r =
    let N = suc n in
    let s = size-le N 53 f.short in
    let p : 0 < N = omega arith in
    let t = to_bits_law N g p s h l in
    let k = size N + place g - 53 in
    let x = field N (to_bits binary64 (fin false N g)) k p s t in
    record {
      significand = digits N (to_bits binary64 (fin false N g)) k p s (digits_fit n e f) t;
      exponent = rw x (same_exponent (suc k) y (size N) e f.above (size_pos N p) (omega arith));
    }

-- few digits: the pattern is the number
few : (N : ℕ) (e : ℤ) → 0 < N → Above e → size N + place e ≤ 53 → to_bits binary64 (fin false N e) ≡ N * 2 ^ place e
unfolding to_bits
few N e p h q =
    let k : size N + place e - 53 ≡ 0 = omega arith in
    rw (magnitude N e h, size_shift N (place e) p, k) (zero-add (N * 2 ^ place e / 1) ∙ div-one (N * 2 ^ place e))

short_number : (N E : ℕ) → 0 < N → size N + E ≤ 52 → N * 2 ^ E < 2 ^ 52
short_number N E p q = lt_of_lt_of_le (subst (λ (k : ℕ). N * 2 ^ E < 2 ^ k) (size_shift N E p) (size-lt (N * 2 ^ E))) (pow_mono q)

pub normal : (n : ℕ) (e : ℤ) → T (fits binary64 (fin false (suc n) e)) → 2 ^ 52 ≤ to_bits binary64 (fin false (suc n) e)
    → Parts (to_bits binary64 (fin false (suc n) e)) 1023 (suc n) e
normal n e t u = go (leb 53 (size (suc n) + place e)) refl
  where
    f : Fitted n e
    f = fitted n e t

    go : (b : Bool) → leb 53 (size (suc n) + place e) ≡ b → Parts (to_bits binary64 (fin false (suc n) e)) 1023 (suc n) e
    go true b = parts n e e 1022 f f.above (leb-true 53 (size (suc n) + place e) b) refl
    go false b =
        let l = leb-false 53 (size (suc n) + place e) b in
        let w = few (suc n) e (omega arith) f.above (omega arith) in
        let v = short_number (suc n) (place e) (omega arith) (omega arith) in
        absurd (omega arith)

-- a pattern below 2 ^ 52 is the number of units, and the float of that number has the same digits
pub record Small (n : ℕ) (e : ℤ) (u : ℕ) : Type 0 where
  pub at : ℕ
  pub is : of_int binary64 (pos u) ≡ fin false (suc n) (pos at)
  pub has : Parts (to_bits binary64 (fin false (suc n) (pos at))) 2097 (suc n) e

pub subnormal : (n : ℕ) (e : ℤ) → T (fits binary64 (fin false (suc n) e)) → to_bits binary64 (fin false (suc n) e) < 2 ^ 52
    → Small n e (to_bits binary64 (fin false (suc n) e))
subnormal n e t u = go (leb 53 (size (suc n) + place e)) refl
  where
    f : Fitted n e
    f = fitted n e t

    go : (b : Bool) → leb 53 (size (suc n) + place e) ≡ b → Small n e (to_bits binary64 (fin false (suc n) e))
    go true b =
        let s = size-le (suc n) 53 f.short in
        let w = to_bits_law (suc n) e (omega arith) s f.above (leb-true 53 (size (suc n) + place e) b) in
        let l = whole_low (suc n) (omega arith) s in
        absurd (omega arith)
    go false b =
        let l = leb-false 53 (size (suc n) + place e) b in
        let w = few (suc n) e (omega arith) f.above (omega arith) in
        let E = place e in
        let U = to_bits binary64 (fin false (suc n) e) in
        let v = short_number (suc n) E (omega arith) (omega arith) in
        let fit = make_fits n (pos E) f.odd f.short (lit≤ tt) (lt_of_lt_of_le v (lit≤ tt)) in
        record {
          at = E;
          is = whole_unique binary64 (of_int binary64 (pos U)) (fin false (suc n) (pos E)) false U (of_int-fits binary64 (pos U)) fit
              (of_int_pos binary64 U (le_trans (le_of_lt u) (lit≤ tt))) (refl, rw w);
          has = parts n e (pos E) 2096 f tt (omega arith) (omega arith);
        }
