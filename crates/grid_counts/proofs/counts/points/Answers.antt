-- `counts::points` meets its contract. The invariant: the product so far, times that of the blocks to come. Assumes
-- nothing.
use mathlib.Core.Path.{◌∙◌}
use Prim.Native.Nat.{◌+◌, pred}
use borrow.Author.Rules.{rules}
use borrow.Author.Tests.{leb-true}
use native.Mathlib.Omega.{arith}
use Rattle.combinatorics.proofs.Basics.{and_left, and_right}
use Rattle.combinatorics.specs.Counting.{choose}
use Rattle.grid_counts.proofs.Capped.{capped_turn}
use Rattle.grid_counts.proofs.counts.points.Goals as goal

pub block_count-requires : goal.block_count-requires
block_count-requires c =
    let w = c.in-Some.ensures.steps in
    let good = rw w.0 at c.loop-size.invariant.2 in
    let few = rw w.0 at c.loop-size.invariant.3 in
    (omega (arith, leb-true 2 c.in-Some.size.now (and_left _ _ good)), omega (arith, few), search rules)

pub loop-size-preserved : goal.loop-size-preserved
loop-size-preserved c =
    let l = c.loop-size in
    let w = c.in-Some.ensures.steps in
    let s = c.in-Some.size.now in
    let d = c.in-Some.division.now in
    let now = rw (w.0, w.1) at l.invariant.0 in
    let good = rw w.0 at l.invariant.2 in
    let few = rw w.0 at l.invariant.3 in
    let long = rw (w.0, w.1) at l.invariant.4 in (
      rw (c.cap-product.ensures, c.block_count.ensures, c.from.ensures, c.from-in-loop-size.ensures)
          (capped_turn l.product (choose (d + pred s) (pred s)) _) ∙ now,
      omega arith,
      and_right _ _ good,
      omega (arith, few),
      omega (arith, long),
    )
