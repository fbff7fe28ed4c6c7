-- `weigh_point` meets its contract: the losses of the players passed stand at their indices. Assumes nothing.
use mathlib.Core.List.{List, map}
use mathlib.Core.Path.{◌≡◌}
use Prim.Native.Nat.{ℕ}
use lib.ListN.{take}
use Rattle.combinatorics.specs.Front.{front}
use Rattle.combinatorics.specs.Lists.{sum, up_from}
use Rattle.grid_points.specs.Grid.{lent}
use Rattle.game_losses.specs.AtPoint.{StrategiesStand}
use Rattle.game_losses.specs.Game.{player_loss, replaced_loss}
use Rattle.game_losses.proofs.point.weigh_point.Given as goal

abbrev pub invariant-loop-player : goal.invariant-loop-player
invariant-loop-player l =
    ((t : List ℕ) → StrategiesStand (lent l.sizes l.divisions) t l.point l.values
    → l.expected ≡ front (map (player_loss (lent l.sizes l.divisions) t l.point) (up_from 0 (sum (take l.player l.sizes)))) l.initial.expected)
    × ((t : List ℕ) → StrategiesStand (lent l.sizes l.divisions) t l.point l.values
    → l.replaced
    ≡ front (map (replaced_loss (lent l.sizes l.divisions) t l.point) (up_from 0 (sum (take l.player l.sizes)))) l.initial.replaced)
