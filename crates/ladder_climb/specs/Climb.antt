-- The climb of the ladder (01, "The ladder"): the recurrence and the derivative formula carried on from the values of
-- two neighbouring rungs, and the slots that are written. `low` and `high` are the values of rungs n − 1 and n.
use Rattle.std.specs.Prelude.{List, ℕ, ◌+◌, ◌-◌, Bool, ◌&&◌, cond, ltb, leb, length, Float}
use Rattle.recurrence.specs.Recurrence.{step}
use Rattle.recurrence.specs.ThreeTerm.{continued}
use Rattle.derivatives.specs.Derivatives.{derivative}
use Rattle.order.specs.declared.Sequence.{Sequence}
use Rattle.slots.specs.Slots.{filled}
pub mod Open

-- value k, from n − 1 on
pub carried_value : Sequence → ℕ → Float → Float → ℕ → Float
carried_value r n low high k =
    continued (λ i. step r.function r.below r.x r.f (n + 1 + i)) low high (k + 1 - n)

-- derivative k
pub carried_derivative : Sequence → ℕ → Float → Float → ℕ → Float
carried_derivative r n low high k =
    let value = carried_value r n low high in
    derivative r.function r.below r.x r.f k (value k) (value (k + 1))

-- whether tables of these lengths hold the rungs above n up to `top`: n is 1 or more, `top` is not below it and at most
-- 1000, as in every order, and there are top + 1 values and `top` derivatives
unfoldable pub room_above : ℕ → ℕ → ℕ → ℕ → Bool
room_above n top values derivatives = leb 1 n && leb n top && leb top 1000 && ltb top values && leb top derivatives

-- with room, values top − 1 and top are given, and values n + 1 to top and derivatives n to top − 1 are written; else
-- low and high, and nothing
pub top_values : Sequence → ℕ → Float → Float → ℕ → ℕ → ℕ → Float × Float
top_values r n low high top values derivatives =
    let value = carried_value r n low high in
    cond (room_above n top values derivatives) (value (top - 1), value top) (low, high)

pub climbed_values : Sequence → ℕ → Float → Float → ℕ → List Float → ℕ → List Float
climbed_values r n low high top l derivatives =
    cond (room_above n top (length l) derivatives) (filled (carried_value r n low high) (n + 1) (n + 1) (top - n) l) l

pub climbed_derivatives : Sequence → ℕ → Float → Float → ℕ → ℕ → List Float → List Float
climbed_derivatives r n low high top values l =
    cond (room_above n top values (length l)) (filled (carried_derivative r n low high) n n (top - n) l) l
