-- `gamma::product` meets its contract: the turns that are left lead to the product.
use Rattle.std.proofs.Common.{◌≡◌, arith}
use Rattle.floats.proofs.Loops.{goes, stops, done}
use Rattle.gamma.specs.Gamma.{product_turn}
use Rattle.gamma.proofs.product.Goals as goal
use Rattle.gamma.proofs.product.Goals.{else-loop-k-test, then-loop-k-test+else-is_infinite+else-k-last}

pub returns-then-is_infinite : goal.returns-then-is_infinite
unfolding product_turn
returns-then-is_infinite g c by acts =
    let e : c.factor-value.result ≡ by c.loop-k.k = acts _ _ (omega arith) c.factor-value.ensures in
    rw e
    (stops (product_turn by) _ _ _ _ (c.loop-k.invariant by acts) (omega arith)
    (rw (c.is_infinite.ensures, e) at c.if-is_infinite.true))

pub loop-k-preserved : goal.loop-k-preserved
unfolding product_turn
loop-k-preserved g c by acts =
    let e : c.factor-value.result ≡ by c.loop-k.k = acts _ _ (omega arith) c.factor-value.ensures in
    rw e
    (goes (product_turn by) _ _ _ _ (c.loop-k.invariant by acts) (omega arith)
    (rw (c.is_infinite.ensures, e) at c.if-is_infinite.false))

pub returns : goal.returns
unfolding product_turn
returns g c by acts =
    elim c.loop-k-test.branch [
      | else-loop-k-test w ↦ rw w.value-is (done (product_turn by) _ _ _ _ (c.loop-k.invariant by acts) (omega arith))
      | then-loop-k-test+else-is_infinite+else-k-last w ↦
          let e : w.factor-value.result ≡ by c.loop-k.k = acts _ _ (omega arith) w.factor-value.ensures in
          rw (w.value-is, e)
          (done (product_turn by) _ _ _ _
          (goes (product_turn by) _ _ _ _ (c.loop-k.invariant by acts) (omega arith)
          (rw (w.is_infinite.ensures, e) at w.if-is_infinite.false))
          (omega arith))
    ]
