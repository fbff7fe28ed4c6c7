-- `last_positive` meets its contract: only 0 stands behind the place. Assumes nothing.
use native.Mathlib.Omega.{arith}
use Rattle.points_in_order.proofs.PointAfter.{zeros_turn}
use Rattle.points_in_order.proofs.last_positive.Goals as goal

pub loop-i-preserved : goal.loop-i-preserved
loop-i-preserved c =
    let l = c.loop-i in
    zeros_turn c.args.block.now l.i (omega arith) (omega arith) c.if-block-i-ne0.false l.invariant
