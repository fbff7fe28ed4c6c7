-- `refinement_questions::grids::made_levels` meets its contract. The invariant: the grids of the levels so far are
-- made. Assumes nothing.
use mathlib.Core.Path.{refl}
use native.Mathlib.Omega.{arith}
use Rattle.grid_points.specs.Grid.{lent}
use Rattle.refinement_questions.proofs.MadeLevels.{all_made, first_made, first-refused, last_made}
use Rattle.refinement_questions.proofs.MadeLevels.{next-goes, next-stops}
use Rattle.refinement_questions.proofs.grids.made_levels.Goals as goal

pub returns-then-first-ne0 : goal.returns-then-first-ne0
returns-then-first-ne0 c =
    let n = c.new-first in
    first-refused (lent c.args.sizes.now c.args.divisions.now) c.args.factor c.args.levels n.result
    _ c.requires.le_levels.0 n.ensures c.if-first-ne0.true

pub loop-i-init : goal.loop-i-init
loop-i-init c =
    let n = c.new-first in (
      first_made (lent c.args.sizes.now c.args.divisions.now) c.args.factor n.result _ refl
          n.ensures c.if-first-ne0.false,
      c.requires.le_levels.0,
    )

pub next_grid-next-requires : goal.next_grid-next-requires
next_grid-next-requires c =
    let l = c.loop-i in (
      last_made (lent c.args.sizes.now c.args.divisions.now) c.args.factor l.i l.grids l.made
          l.invariant.0,
      c.requires.le_factor.0,
      c.requires.le_factor.1,
    )

pub returns-then-next-ne0 : goal.returns-then-next-ne0
returns-then-next-ne0 c =
    let l = c.loop-i in
    let n = c.next_grid-next in
    next-stops (lent c.args.sizes.now c.args.divisions.now) c.args.factor l.i l.grids l.made
    l.invariant.0 n.result n.ensures c.args.levels (omega arith) c.if-next-ne0.true

pub loop-i-preserved : goal.loop-i-preserved
loop-i-preserved c =
    let l = c.loop-i in
    let n = c.next_grid-next in (
      next-goes (lent c.args.sizes.now c.args.divisions.now) c.args.factor l.i l.grids l.made
          l.invariant.0 n.result n.ensures c.if-next-ne0.false (omega (arith, c.requires.le_levels.1)),
      omega arith,
    )

pub returns : goal.returns
returns c =
    let l = c.loop-i in
    all_made (lent c.args.sizes.now c.args.divisions.now) c.args.factor l.i l.grids l.made
    l.invariant.0 c.args.levels (omega arith)
