-- `fill` meets its contract: the bytes passed are those of the table. Assumes nothing.
use mathlib.Core.Path.{◌∙◌}
use lib.ListN.{length-set}
use native.Mathlib.Omega.{arith}
use Rattle.combinatorics.proofs.Fronts.{front-copy}
use Rattle.boundary.proofs.table.fill.Goals as goal

pub loop-i-preserved : goal.loop-i-preserved
loop-i-preserved c =
    let l = c.loop-i in (
      omega arith,
      omega arith,
      rw length-set l.invariant.2,
      λ table buffer n m e f.
          let is = c.found_or.ensures ∙ f l.i l.invariant.0 (omega arith) in
          rw (l.invariant.3 table buffer n m e f, is) (front-copy table buffer l.i (omega arith) (omega arith)),
    )
