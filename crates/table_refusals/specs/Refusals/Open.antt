-- What the shut definition is, for the proofs of this crate. No other crate cites this module.
use Rattle.std.specs.Prelude.{◌≡◌, refl, Bool, ◌||◌, cond, Float}
use Rattle.std.specs.Float.Ieee.{is_nan}
use Rattle.order.specs.Order.{too_large}
use Rattle.table_refusals.specs.Refusals.{refusal_by}

pub refusal_by_is : (v x : Float) (short : Bool)
    → refusal_by v x short ≡ cond (is_nan v || is_nan x) 1 (cond (too_large v) 2 (cond short 3 0))
unfolding refusal_by
refusal_by_is v x short = refl
