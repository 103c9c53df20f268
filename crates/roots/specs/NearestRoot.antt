-- The theorem that the square root is the nearest float, in whole squares: `square_root_nearest`
-- (proofs/SquareRootNearest.antt) says `NearestRoot (square_root x) n` for every float x above 0, n being its size in
-- units of 2 ^ -1074. Every finite float is a whole number of these units, with a sign.
-- In these units the root of x is the root of n * 2 ^ 1074. A float y is farther from it than r exactly where the
-- middle of y and r lies on the side of y: above the root for a y above r, below the root for a y below r. With `units`
-- for r and k for y the middle is (k + units) / 2, so (k + units) ^ 2 is compared with 4 * (n * 2 ^ 1074). With -k for
-- y it is (units - k) / 2; where that is not above 0 it lies below the root, and the difference of natural numbers is
-- 0.
-- Each comparison is strict, so no other float is as near: there is no tie.
use Rattle.std.specs.Prelude.{ℕ, ◌+◌, ◌-◌, ◌*◌, ◌^◌, ◌<◌, true, false, T, Float}
use Rattle.std.specs.Float.{binary64}
use Rattle.std.specs.Float.Ieee.{fits}
use Rattle.std.specs.Float.Ieee.Exact.{HasValue}

-- r is a finite float, not below 0, and nearer to the root of n units than every other finite float y
pub record NearestRoot (r : Float) (n : ℕ) : Type 0 where
  pub held : T (fits binary64 r)
  pub units : ℕ
  pub value : HasValue r false units (2 ^ 1074)
  pub above : (y : Float) (k : ℕ) → T (fits binary64 y) → HasValue y false k (2 ^ 1074) → units < k
      → 4 * (n * 2 ^ 1074) < (k + units) * (k + units)
  pub below : (y : Float) (k : ℕ) → T (fits binary64 y) → HasValue y false k (2 ^ 1074) → k < units
      → (k + units) * (k + units) < 4 * (n * 2 ^ 1074)
  pub negative : (y : Float) (k : ℕ) → T (fits binary64 y) → HasValue y true k (2 ^ 1074)
      → (units - k) * (units - k) < 4 * (n * 2 ^ 1074)
