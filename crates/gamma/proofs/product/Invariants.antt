use Rattle.std.proofs.Common.{◌≡◌, ℕ, Float, ◌+◌, ◌-◌, false}
use Rattle.floats.specs.Loops.{count_up}
use Rattle.gamma.specs.Gamma.{product_turn, Computes, product}
use Rattle.gamma.proofs.product.Given as goal

abbrev pub invariant-loop-k : goal.invariant-loop-k
invariant-loop-k g l =
    (by : ℕ → Float) → Computes (goal.F-post g l.factor) by
    → count_up (product_turn by) (l.last + 1 - l.k) l.k (false, l.value) ≡ product by l.first l.last
