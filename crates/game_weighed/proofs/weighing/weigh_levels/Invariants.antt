-- `weigh_levels` meets its contract: the levels up to the one reached stand in the array, for whatever losses.
-- Assumes nothing.
use mathlib.Core.List.{List, []}
use Prim.Native.Nat.{ℕ}
use Rattle.grid_points.specs.Grid.{lent}
use Rattle.game_weighed.specs.Levels.{StandTo}
use Rattle.game_weighed.proofs.weighing.weigh_levels.Given as goal

abbrev pub invariant-loop-level : goal.invariant-loop-level
invariant-loop-level l =
    let g = lent l.game.sizes.now [] in
    (t : List ℕ) → StandTo g t l.point l.first l.initial.levels → StandTo g t l.point l.level l.levels
