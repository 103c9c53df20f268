-- What the crates above may know of sin and cos beside their contracts and the theorem of QuarterTurns.antt.
use Rattle.std.proofs.Common.{◌≡◌}
use Rattle.std.specs.Float.{nan}
use Rattle.floats.proofs.Examples.{entry_of}
use Rattle.floats.specs.Operations.{f0, f1}
use Rattle.trigonometric.specs.Trigonometric.{sin, cos}
use Rattle.trigonometric.specs.Trigonometric.Examples.{examples_hold}

-- ---- values from the list of examples, by their place in it

pub sin_zero : sin f0 ≡ f0
sin_zero = entry_of examples_hold 0 nan

pub cos_zero : cos f0 ≡ f1
cos_zero = entry_of examples_hold 15 nan
