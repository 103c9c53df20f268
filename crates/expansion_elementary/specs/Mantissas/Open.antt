-- What the shut definition is. Only this crate's proofs cite this law.
use Rattle.std.specs.Prelude.{◌≡◌, refl, Float}
use Rattle.expansion_elementary.specs.Mantissas.{parameter, clamped, mantissas_by, mantissas}

pub mantissas_are : (v x : Float) → mantissas v x ≡ mantissas_by (parameter v) (clamped x)
unfolding mantissas
mantissas_are v x = refl
