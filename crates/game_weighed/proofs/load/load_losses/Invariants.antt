-- `load_losses` meets its contract: the tables of the indices passed stand in the array. Assumes nothing.
use mathlib.Core.List.{[]}
use Rattle.grid_points.specs.Grid.{Point, lent}
use Rattle.game_weighed.specs.Levels.{Stand}
use Rattle.game_weighed.proofs.load.load_losses.Given as goal

abbrev pub invariant-loop-h : goal.invariant-loop-h
invariant-loop-h l =
    (y : Point) → Stand (lent l.game.sizes.now []) l.game.losses.now y 0 l.h l.levels
