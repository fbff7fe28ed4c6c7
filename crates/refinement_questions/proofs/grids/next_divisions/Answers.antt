-- `refinement_questions::grids::next_divisions` meets its contract. The invariant: the divisions so far, times k, stand
-- at the front. Assumes nothing.
use mathlib.Core.Path.{sym}
use lib.ListN.{replicate}
use native.Mathlib.Omega.{arith}
use Rattle.combinatorics.proofs.Fronts.{front-none}
use Rattle.grid.proofs.Fields.{blocks-range}
use Rattle.refinement_questions.proofs.NextGrids.{next-all, next_not, next_put, product_small}
use Rattle.refinement_questions.proofs.grids.next_divisions.Goals as goal

pub loop-j-init : goal.loop-j-init
loop-j-init c =
    (sym (front-none (replicate 6 0)), omega arith, (blocks-range c.args.grid c.requires.0).1)

pub overflow_mul-product : goal.overflow_mul-product
overflow_mul-product c = omega (arith, product_small c.args.factor c.from.result c.requires.1 (omega arith))

pub returns-then-product-gt65535 : goal.returns-then-product-gt65535
returns-then-product-gt65535 c =
    let l = c.loop-j in
    let w = c.from in
    next_not c.args.grid c.requires.0 c.args.factor l.numbers l.j w.result l.invariant.0 (omega arith)
    w.ensures c.if-product-gt65535.true

pub loop-j-preserved : goal.loop-j-preserved
loop-j-preserved c =
    let l = c.loop-j in
    let w = c.from in (
      next_put c.args.grid c.requires.0 c.args.factor l.numbers l.j w.result l.invariant.0 (omega arith)
          w.ensures,
      omega arith,
      l.invariant.2,
    )

pub returns : goal.returns
returns c =
    let l = c.loop-j in
    next-all c.args.grid c.requires.0 c.args.factor l.numbers l.j l.invariant.0 (omega arith)
