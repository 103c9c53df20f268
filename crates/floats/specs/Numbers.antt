-- The numbers of the functions in the C interface.
use Rattle.std.specs.Prelude.{◌≡◌, ◌≢◌, ℕ, Result, MatchResult}
use Rattle.floats.specs.declared.Function.{Function}
use Rattle.floats.specs.declared.Function.TheVariants.{D, «V»}
use Rattle.floats.specs.declared.UnknownFunction.{UnknownFunction}

abbrev pub function_number : Function → ℕ
function_number D = 1
function_number «V» = 2

-- the result is the function with this number, or an error with a number that no function has
abbrev pub IsNumbered : ℕ → Result Function UnknownFunction → Type 0
IsNumbered number r =
    MatchResult r (λ function. function_number function ≡ number) (λ e. (e.number ≡ number) × (number ≢ 1) × (number ≢ 2))
