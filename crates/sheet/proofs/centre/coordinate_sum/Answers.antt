-- `centre::coordinate_sum` meets its contract: after k turns the sum is that of the first k vertices. Assumes nothing.
use native.Mathlib.Omega.{arith}
use Rattle.sheet_lines.proofs.Rows.{total_more}
use Rattle.sheet.proofs.centre.coordinate_sum.Goals as goal

pub loop-k-preserved : goal.loop-k-preserved
loop-k-preserved c =
    let a = c.args in
    let l = c.loop-k in (
      rw (total_more l.k a.m a.h a.vertices.now (omega arith), ← l.invariant.0, c.from-sum.ensures),
      omega arith,
    )
