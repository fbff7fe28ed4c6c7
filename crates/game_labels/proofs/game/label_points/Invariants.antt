-- `label_points` meets its contract: the labels of the points passed stand at the front of the buffer, the tables of
-- the point up to the first block that has changed, and the differences at its corners unless a block before the last
-- has changed. Assumes nothing.
use mathlib.Core.Bool.{false}
use mathlib.Core.List.{[]}
use mathlib.Core.Path.{◌≡◌}
use Prim.Native.Nat.{◌<◌}
use lib.ListN.{length, get_or, take}
use Rattle.combinatorics.specs.Front.{front}
use Rattle.game_corners.specs.Corners.{last_player, num_corners, Cornered}
use Rattle.grid_points.specs.Grid.{num_points, points, lent}
use Rattle.game_weighed.specs.Levels.{StandTo, game_grid}
use Rattle.game_losses.specs.Game.{labels}
use Rattle.game_labels.proofs.game.label_points.Given as goal

abbrev pub invariant-loop-label : goal.invariant-loop-label
invariant-loop-label l = record {
  written : l.buffer ≡ front (take l.label-index (labels (game_grid l.game) l.game.losses.now)) l.initial.buffer;
  here : l.label-index < num_points (game_grid l.game) → l.point ≡ get_or (points (game_grid l.game)) l.label-index [];
  long : length l.point ≡ length l.initial.point;
  stand : StandTo (lent l.game.sizes.now []) l.game.losses.now l.point l.first l.levels;
  corners : l.changed ≡ false
      → Cornered (lent l.game.sizes.now l.ones) l.game.losses.now l.point (num_corners (game_grid l.game))
      l.differences;
  inside : l.first < length l.game.sizes.now;
  kept : l.changed ≡ false → l.first ≡ last_player (game_grid l.game);
}
