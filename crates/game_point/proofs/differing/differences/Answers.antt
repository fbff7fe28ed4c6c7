-- `differences` meets its contract: those of the indices passed stand in the array. Assumes nothing.
use mathlib.Core.Path.{◌≡◌}
use native.Mathlib.Omega.{arith}
use lib.ListN.{length, length-set}
use mir.Facts.{to_z-of_z}
use mir.Syntax.{w64}
use mir.Val.{to_z, of_z, SFits}
use borrow.Author.Rules.{rules}
use Rattle.game_corners.proofs.Rows.{entry_next}
use Rattle.game_weighed.specs.Levels.{game_grid}
use Rattle.grid_points.proofs.Points.{point-long}
use Rattle.grid_points.specs.Grid.{num_indices}
use Rattle.game_losses.specs.Game.{difference}
use Rattle.game_point.proofs.differing.differences.Goals as goal
use Rattle.game_point.proofs.differing.differences.Goals.{Start}

long : (c : Start)
    → length c.args.point.now ≡ num_indices (game_grid c.args.game.now)
long c = point-long (game_grid c.args.game.now) c.args.point.now c.requires.1.is_point

pub difference-requires : goal.difference-requires
difference-requires c =
    (c.requires, omega arith, omega (arith, long (goal.at.difference-requires c).Start))

pub offset_bounds-differences-h : goal.offset_bounds-differences-h
offset_bounds-differences-h c =
    omega (arith, long (goal.at.offset_bounds-differences-h c).Start, c.requires.1.grid.few_indices)

pub bounds-differences-h : goal.bounds-differences-h
bounds-differences-h c =
    omega (arith, long (goal.at.bounds-differences-h c).Start, c.requires.1.grid.few_indices)

pub loop-h-preserved : goal.loop-h-preserved
loop-h-preserved c =
    let l = c.loop-h in
    let d = c.difference in
    let g = game_grid c.args.game.now in
    let fits : SFits w64 d.result = search rules in
    let z : to_z w64 (of_z w64 d.result) ≡ d.result = to_z-of_z {w = w64} fits in (
      (λ losses G are. entry_next (λ i v. v ≡ difference g losses c.args.point.now i) l.differences l.h _
          (omega (arith, long (goal.at.loop-h-preserved c).Start, c.requires.1.grid.few_indices)) (l.invariant.0 losses G are)
          (rw z (d.ensures losses G are))),
      simp length-set l.invariant.1,
    )

pub returns : goal.returns
returns c = λ losses G are h b.
    c.loop-h.invariant.0 losses G are h (omega (arith, long (goal.at.returns c).Start))
