-- What the shut definition is, for the proofs of this crate.
use Rattle.std.specs.Prelude.{◌≡◌, refl, false}
use Rattle.floats.specs.Operations.{f0}
use Rattle.floats.specs.declared.Function.TheVariants.{D}
use Rattle.ladder_states.specs.States.{state_of, empty_state}

pub empty_state_is : empty_state ≡ state_of (record { function = D; below = false; x = f0; f = f0 }) 0 f0 f0
unfolding empty_state
empty_state_is = refl
