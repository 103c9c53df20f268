-- `floats::polevl` meets its contract: the fold over the coefficients is the recursion of the definition.
use Rattle.std.proofs.Common.{◌≡◌, rules}
use Rattle.std.specs.List.{reduce}
use Rattle.floats.specs.Operations.{◌⊕◌, ◌⊗◌}
use Rattle.floats.proofs.Horner.{reduced}
use Rattle.floats.proofs.polevl.Goals as goal

pub returns : goal.returns
returns c =
    let r : c.reduce.result ≡ reduce (λ a b. a ⊗ c.args.x ⊕ b) c.args.coef.now = search rules in
    rw (c.unwrap_or.ensures, r) (reduced c.args.coef.now c.args.x)
