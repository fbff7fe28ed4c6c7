-- `pick` meets its contract: the losses of the indices passed are picked. Assumes nothing.
use mathlib.Core.Path.{◌≡◌}
use Prim.Native.Nat.{ℕ, ◌<◌}
use lib.ListN.{length}
use Rattle.grid_points.specs.Grid.{at}
use Rattle.game_corners.specs.Corners.{picked_at}
use Rattle.game_corners.proofs.picking.pick.Given as goal

abbrev pub invariant-loop-h : goal.invariant-loop-h
invariant-loop-h l =
    ((i : ℕ) → i < l.h → at l.values i ≡ picked_at l.owners l.levels l.last l.k i)
    × (length l.values ≡ 16)
