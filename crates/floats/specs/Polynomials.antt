-- The source's `polevl` (src/xsf/cephes/polevl.rs): a polynomial by its coefficients, from the highest power down, each
-- step rounded.
use Rattle.std.specs.Prelude.{List, [], ◌∷◌, Float}
use Rattle.floats.specs.Operations.{◌⊕◌, ◌⊗◌, f0}

-- "|acc, c| acc * x + c", over the coefficients that are left
unfoldable pub polevl_from : Float → List Float → Float → Float
polevl_from a [] x = a
polevl_from a (c ∷ cs) x = polevl_from (a ⊗ x ⊕ c) cs x

-- "coef.iter().copied().reduce(..)", and 0 where there is no coefficient
unfoldable pub polevl : List Float → Float → Float
polevl [] x = f0
polevl (c ∷ cs) x = polevl_from c cs x
