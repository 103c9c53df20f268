-- The column reader (01, "The ladder"): the first c slots of the table named, or none where c exceeds its length.
use Rattle.std.specs.Prelude.{List, [], ℕ, cond, leb, length, take, Float}
use Rattle.ladder_reader.specs.declared.Column.{Column}
use Rattle.ladder_reader.specs.declared.Column.TheVariants.{Values, Derivatives}

abbrev pub named : Column → List Float → List Float → List Float
named Values values derivatives = values
named Derivatives values derivatives = derivatives

abbrev pub first_slots : ℕ → List Float → List Float
first_slots c l = cond (leb c (length l)) (take c l) []
