-- What the shut definition is, for the proofs of this crate. No other crate cites this module.
use Rattle.std.specs.Prelude.{◌≡◌, refl, List, not, ◌||◌, cond, length, Float}
use Rattle.ladder_machine.specs.Machine.{too_short}
use Rattle.ladder_machine.specs.declared.Held.{Held}
use Rattle.ladder_machine.specs.Held.{counts_empty, held_forward}
use Rattle.ladder_tested_reader.specs.Tested.{holds_rungs, tested}

pub tested_is : (h : Held) (values derivatives : List Float)
    → tested h values derivatives
    ≡ cond (counts_empty h || not (held_forward h)) 6
    (cond (too_short h.n (length values) (length derivatives)) 3
    (cond (holds_rungs h.sequence h.n values derivatives) 0 7))
unfolding tested
tested_is h values derivatives = refl
