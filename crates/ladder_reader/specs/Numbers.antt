-- The column reader in C (01, "The ladder"): 1 names the values, 2 the derivatives, any other number neither.
use Rattle.std.specs.Prelude.{List, [], ℕ, cond, eqb, Float}
use Rattle.std.proofs.Math.Option.{Option, some, none}
use Rattle.ladder_reader.specs.declared.Column.{Column}
use Rattle.ladder_reader.specs.declared.Column.TheVariants.{Values, Derivatives}
use Rattle.ladder_reader.specs.Columns.{named, first_slots}

abbrev pub column_of : ℕ → Option Column
column_of which = cond (eqb which 1) (some Values) (cond (eqb which 2) (some Derivatives) none)

abbrev pub part_of : Option Column → ℕ → List Float → List Float → List Float
part_of (some column) c values derivatives = first_slots c (named column values derivatives)
part_of none c values derivatives = []

abbrev pub column_in : ℕ → ℕ → List Float → List Float → List Float
column_in which c values derivatives = part_of (column_of which) c values derivatives
