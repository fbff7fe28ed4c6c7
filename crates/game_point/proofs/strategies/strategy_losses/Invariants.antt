-- `strategy_losses` meets its contract: the losses of the indices passed stand in the array. Assumes nothing.
use mathlib.Core.List.{[]}
use mathlib.Core.Path.{◌≡◌}
use Prim.Native.Nat.{ℕ, ◌<◌}
use lib.ListN.{length}
use Rattle.grid_points.specs.Grid.{at, lent}
use Rattle.game_point.specs.Label.{own_loss}
use Rattle.game_point.proofs.strategies.strategy_losses.Given as goal

abbrev pub invariant-loop-h : goal.invariant-loop-h
invariant-loop-h l =
    ((i : ℕ) → i < l.h → at l.values i ≡ own_loss (lent l.game.sizes.now []) l.game.losses.now l.point i)
    × (length l.values ≡ 16)
