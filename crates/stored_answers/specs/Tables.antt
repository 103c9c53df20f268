-- The table calls by their numbers in data/tables.bin (README.md).
use Rattle.std.specs.Prelude.{ℕ, ◌/◌, ◌%◌, true, false, cond, List, length, take, replicate, ◌==◌, nat_le, nat_lt, Float}
use Rattle.std.proofs.Math.Option.{Option, some, none}
use Rattle.std.specs.Float.{nan, inf}
use Rattle.std.specs.Float.Ieee.{neg}
use Rattle.floats.specs.Operations.{whole, bits, f0}
use Rattle.floats.specs.declared.Function.{Function}
use Rattle.floats.specs.declared.Function.TheVariants.{D, «V»}
use Rattle.slots.specs.Slots.{filled, slot}
use Rattle.tables.specs.Tables.{refusal, table_after, answer}

-- what slot k holds before a call
unfoldable pub junk : ℕ → Float
junk k =
    cond (k % 7 == 0) nan
    (cond (k % 7 == 1) (neg f0)
    (cond (k % 7 == 2) (inf false)
    (cond (k % 7 == 3) (bits 0x3ff8_0000_0000_0000)
    (cond (k % 7 == 4) (inf true)
    (cond (k % 7 == 5) (bits 1) (neg (bits 0x7e37_e43c_8800_759c)))))))

-- the value of a pair, or its derivative; NaN where there is none
unfoldable pub part_of : Option (Float × Float) → ℕ → Float
part_of (some p) place = cond (place == 65) p.0 p.1
part_of none place = nan

-- after the call on the table l: place 64 is the refusal number, 65 the value, 66 the derivative, and below 64 a place
-- is a slot
unfoldable pub place_after : Function → ℕ → Float → Float → List Float → Float
place_after fn place v x l =
    cond (nat_lt place 64) (slot (table_after fn v x l) place)
    (cond (place == 64) (whole (refusal v x (length l))) (part_of (answer fn v x (length l)) place))

-- a table with junk in every slot
unfoldable pub with_junk : List Float → List Float
with_junk l = filled junk 0 0 (length l) l

-- number n at order v and argument x: the call, the place and the number of slots are its digits
unfoldable pub tables_answer : ℕ → Float → Float → Float
tables_answer n v x =
    cond (nat_le (n / 65536) 63)
    (place_after (cond (n % 256 == 24) D «V») (n / 256 % 256) v x (with_junk (take (n / 65536) (replicate 63 f0))))
    nan
