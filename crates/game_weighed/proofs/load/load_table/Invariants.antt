-- `load_table` meets its contract: the losses passed are written. Assumes nothing.
use Rattle.grid_points.specs.Grid.{at}
use Rattle.game_weighed.specs.Levels.{Written}
use Rattle.game_weighed.proofs.load.load_table.Given as goal

abbrev pub invariant-loop-e : goal.invariant-loop-e
invariant-loop-e l =
    Written l.initial.levels l.to l.e (at l.losses) l.levels
