-- `weigh_changed` meets its contract: where a block before the last has changed, the levels behind it are weighed and
-- then the corners. Assumes nothing.
use mathlib.Core.List.{[]}
use Prim.Native.Nat.{◌-◌}
use native.Mathlib.Omega.{arith}
use lib.ListN.{length}
use Rattle.game_corners.proofs.CornerLabels.{corner-points}
use Rattle.grid_points.proofs.Accepted.{accepted}
use Rattle.grid_points.specs.Grid.{lent}
use Rattle.game_weighed.proofs.Levels.{stand-to-alike}
use Rattle.points_in_order.proofs.Blocks.{point-length}
use Rattle.game_labels.proofs.game.weigh_changed.Goals as goal

pub weigh_corners-requires : goal.weigh_corners-requires
weigh_corners-requires c =
    let x = c.requires.2 in
    let a = c.args in
    let ss = a.game.now.sizes.now in
    let ds = c.requires.0 in
    let t = c.requires.1 in
    let g = lent ss ds in
    let y = a.point.now in
    let yes = accepted g x.levels_at.point.grid.accepted in
    let new = c.weigh_levels.new.levels in (
      t,
      record {
        some = yes.some_block;
        table = record { whole = x.table.whole; range = x.table.range };
        owned = x.levels_at.owned;
        stand = stand-to-alike ss [] a.game.now.divisions.now t y (length ss - 1) new
            (c.weigh_levels.ensures t (stand-to-alike ss ds [] t y a.first a.levels.now x.levels_at.stand));
        points = corner-points g a.game.now.firsts.now t a.game.now.divisions.now x.ones_are y x.levels_at.point;
        whole = point-length g yes y x.levels_at.point.is_point;
        numbers = omega (arith, x.levels_at.whole);
        rows = x.rows;
      },
    )

pub returns : goal.returns
returns c =
    let w = c.weigh_levels in
    let a = c.args in
    let ss = a.game.now.sizes.now in
    let new = w.new.levels in record {
      stand_to = w.ensures;
      cornered = λ t stand old. c.weigh_corners.ensures t
          (stand-to-alike ss [] a.game.now.divisions.now t a.point.now (length ss - 1) new (w.ensures t stand));
    }
