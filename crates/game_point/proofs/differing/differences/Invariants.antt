-- `differences` meets its contract: those of the indices passed stand in the array. Assumes nothing.
use mathlib.Core.List.{List}
use mathlib.Core.Path.{◌≡◌}
use Prim.Native.Nat.{ℕ, ◌<◌}
use lib.ListN.{length}
use Rattle.game_corners.specs.Corners.{signed_at}
use Rattle.game_weighed.specs.Levels.{game_grid}
use Rattle.game_losses.specs.Game.{difference}
use Rattle.game_point.specs.Label.{GameAt, OwnLosses}
use Rattle.game_point.proofs.differing.differences.Given as goal

abbrev pub invariant-loop-h : goal.invariant-loop-h
invariant-loop-h l =
    ((losses : List ℕ) → GameAt (game_grid l.game) l.game.firsts.now l.game.owners.now losses l.point
    → OwnLosses (game_grid l.game) losses l.point l.values
    → (i : ℕ) → i < l.h → signed_at l.differences i ≡ difference (game_grid l.game) losses l.point i)
    × (length l.differences ≡ 16)
