-- What each shut definition is, for the proofs of this crate. No other crate cites this module.
use Rattle.std.specs.Prelude.{◌≡◌, refl, ◌||◌, cond, eqb, ltb}
use Rattle.std.specs.Float.Ieee.{is_nan, le}
use Rattle.floats.specs.Operations.{◌⊕◌, whole, f1}
use Rattle.signs.specs.Signs.{absolute}
use Rattle.branches.specs.Branches.{runs_forward}
use Rattle.ladder_machine.specs.declared.Held.{Held}
use Rattle.ladder_machine.specs.Machine.{empty, holds, bits_of}
use Rattle.ladder_machine.specs.Held.{counts_empty, held_forward, machine_of}

pub counts_empty_is : (h : Held)
    → counts_empty h
    ≡ (let r = h.sequence in eqb h.n 0 || ltb 1000 h.n || is_nan r.x || is_nan r.f || le f1 (absolute r.f))
unfolding counts_empty
counts_empty_is h = refl

pub held_forward_is : (h : Held)
    → held_forward h ≡ (let r = h.sequence in runs_forward r.function r.below r.x (whole h.n ⊕ r.f))
unfolding held_forward
held_forward_is h = refl

pub machine_of_is : (h : Held)
    → machine_of h
    ≡ (let r = h.sequence in cond (counts_empty h) empty (holds r.function r.below (bits_of r.x) (bits_of r.f) h.n))
unfolding machine_of
machine_of_is h = refl
