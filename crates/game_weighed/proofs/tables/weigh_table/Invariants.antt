-- `weigh_table` meets its contract: the numbers passed are weighed. Assumes nothing.
use mathlib.Core.Path.{◌≡◌}
use lib.ListN.{length}
use Rattle.game_weighed.specs.Levels.{weighed_at, Written}
use Rattle.game_weighed.proofs.tables.weigh_table.Given as goal

abbrev pub invariant-loop-e : goal.invariant-loop-e
invariant-loop-e l =
    Written l.initial.levels l.to l.e (weighed_at l.mix l.initial.levels l.from l.rest) l.levels
    × (length l.levels ≡ length l.initial.levels)
