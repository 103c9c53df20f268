-- The expansion, the Maclaurin series and the functions below them by their numbers in data/expansion.bin (README.md).
use Rattle.std.specs.Prelude.{ℕ, ◌/◌, ◌%◌, false, cond, List, [], ◌∷◌, ◌==◌, slice_index_or, Float}
use Rattle.std.proofs.Math.Option.{Option}
use Rattle.std.specs.Float.{nan, inf}
use Rattle.std.specs.Float.Ieee.{neg}
use Rattle.floats.specs.Operations.{whole, bits, f0, f½, f1}
use Rattle.gamma_ratio.specs.GammaRatio.{log1pmx, lgam_stirling_corr, ln_gamma_ratio}
use Rattle.mul_exp.specs.MulExp.{mul_exp}
use Rattle.expansion_polynomials.specs.Polynomials.{u_sum, v_sum}
use Rattle.expansion_elementary.specs.Mantissas.{mantissas}
use Rattle.expansion.specs.Expansion as expansion
use Rattle.maclaurin.specs.Maclaurin as maclaurin
use Rattle.stored_answers.specs.Tables.{part_of}

-- 0, −0, 1, −1, 0.5, −2.25, 1e300, −1e-300, 700, −745.5, 1500, −1500, 5e-324, infinity, NaN, 0.1
unfoldable pub constants : List Float
constants =
    f0 ∷
    neg f0 ∷
    f1 ∷
    neg f1 ∷
    f½ ∷
    bits 0xc002_0000_0000_0000 ∷
    bits 0x7e37_e43c_8800_759c ∷
    bits 0x81a5_6e1f_c2f8_f359 ∷
    bits 0x4085_e000_0000_0000 ∷
    bits 0xc087_4c00_0000_0000 ∷
    bits 0x4097_7000_0000_0000 ∷
    bits 0xc097_7000_0000_0000 ∷
    bits 1 ∷
    inf false ∷
    nan ∷
    bits 0x3fb9_9999_9999_999a ∷
    []

-- by the last of the number's digits to the base 16
unfoldable pub constant : ℕ → Float
constant k = slice_index_or constants (k % 16) nan

unfoldable pub sum_at : ℕ → Float → Float → Float
sum_at part t w = cond (part == 0) (u_sum t w) (v_sum t w)

unfoldable pub mantissa_at : ℕ → Float → Float → Float
mantissa_at part v x =
    cond (part == 0) (mantissas v x).0
    (cond (part == 1) (mantissas v x).1 (mantissas v x).2)

-- of a request: place 64 is the refusal number, 65 the value, 66 the derivative
abbrev pub request_at : ℕ → ℕ → Option (Float × Float) → Float
request_at place refusal answer = cond (place == 64) (whole refusal) (part_of answer place)

-- the series of number n at a and x
unfoldable pub series_at : ℕ → ℕ → Float → Float → Float
series_at n place a x =
    let c0 = constant (n / 65536) in
    let c1 = constant (n / 1048576) in
    let e = constant (n / 16777216) in
    request_at place (maclaurin.refusal a x c0 c1 e) (maclaurin.answer a x c0 c1 e)

-- number n at x and y: the function or call, and the part or place, are its first digits to the base 256; NaN for a
-- number that no function has
unfoldable pub expansion_answer : ℕ → Float → Float → Float
expansion_answer n x y =
    let place = n / 256 % 256 in
    cond (n % 256 == 26) (log1pmx x)
    (cond (n % 256 == 27) (lgam_stirling_corr x)
    (cond (n % 256 == 28) (ln_gamma_ratio x)
    (cond (n % 256 == 29) (mul_exp x y)
    (cond (n % 256 == 30) (sum_at place x y)
    (cond (n % 256 == 31) (mantissa_at place x y)
    (cond (n % 256 == 32) (request_at place (expansion.refusal x y) (expansion.answer x y))
    (cond (n % 256 == 33) (series_at n place x y) nan)))))))
