-- `weigh_corners` meets its contract: the differences at the corners passed stand in their rows. Assumes nothing.
use mathlib.Core.List.{List}
use Prim.Native.Nat.{ℕ}
use Rattle.game_weighed.specs.Levels.{StandTo, game_grid}
use Rattle.game_corners.specs.Corners.{last_player, Cornered}
use Rattle.game_corners.proofs.weighing.weigh_corners.Given as goal

abbrev pub invariant-loop-k : goal.invariant-loop-k
invariant-loop-k l =
    (t : List ℕ) → StandTo (game_grid l.game) t l.point (last_player (game_grid l.game)) l.levels
    → Cornered (game_grid l.game) t l.point l.k l.differences
