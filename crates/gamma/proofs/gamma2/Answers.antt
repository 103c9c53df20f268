-- `gamma::gamma2` meets its contract: each return is the case that the tests on the way to it pick.
use Rattle.gamma.specs.Gamma.Open.{gamma2_whole, gamma2_pole, gamma2_near, gamma2_above, gamma2_below}
use Rattle.gamma.proofs.gamma2.Goals as goal

pub returns-then-x : goal.returns-then-x
returns-then-x c =
    rw (
      gamma2_whole _ (rw c.trunc.ensures at c.if-x-trunc.true) c.if-x.true,
      c.factorial.ensures,
      c.last_factor.ensures,
    )

pub returns-else-x : goal.returns-else-x
returns-else-x c = rw (gamma2_pole _ (rw c.trunc.ensures at c.if-x-trunc.true) c.if-x.false)

pub returns-then-x-2 : goal.returns-then-x-2
returns-then-x-2 c =
    rw (
      gamma2_below _ (rw c.trunc.ensures at c.if-x-trunc.false) (rw c.abs-z.ensures at c.if-z.true) c.if-x-2.true,
      c.sin.ensures,
      c.gamma_above-ga.ensures,
      c.abs-z.ensures,
    )

pub returns-else-x-2 : goal.returns-else-x-2
returns-else-x-2 c =
    rw (
      gamma2_above _ (rw c.trunc.ensures at c.if-x-trunc.false) (rw c.abs-z.ensures at c.if-z.true) c.if-x-2.false,
      c.gamma_above-ga.ensures,
      c.abs-z.ensures,
    )

pub returns-else-z : goal.returns-else-z
returns-else-z c =
    rw (
      gamma2_near _ (rw c.trunc.ensures at c.if-x-trunc.false) (rw c.abs-z.ensures at c.if-z.false),
      c.gamma_near.ensures,
    )
