-- `polevl` as the fold of one step over the coefficients after the first.
use Rattle.std.proofs.Common.{◌≡◌, refl, List, [], ◌∷◌, Float, fold}
use Rattle.std.specs.List.{reduce}
use Rattle.std.specs.Option.{unwrap_or}
use Rattle.floats.specs.Operations.{◌⊕◌, ◌⊗◌, f0}
use Rattle.floats.specs.Polynomials.{polevl_from, polevl}

pub folded : (a : Float) (cs : List Float) (x : Float) → fold (λ p c. p ⊗ x ⊕ c) a cs ≡ polevl_from a cs x
unfolding polevl_from
folded a [] x = refl
folded a (c ∷ cs) x = folded (a ⊗ x ⊕ c) cs x

pub reduced : (p : List Float) (x : Float) → unwrap_or (reduce (λ a c. a ⊗ x ⊕ c) p) f0 ≡ polevl p x
unfolding polevl
reduced [] x = refl
reduced (c ∷ cs) x = folded c cs x
