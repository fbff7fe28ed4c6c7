-- `nearest_met::distances::weights` meets its contract. The invariant: the weights of the indices passed. Assumes
-- nothing.
use mathlib.Core.Path.{◌≡◌}
use Prim.Native.Nat.{ℕ, ◌≤◌, ◌<◌}
use lib.ListN.{length}
use Rattle.grid_points.specs.Grid.{at, block_of}
use Rattle.grid.specs.Made.{shape}
use Rattle.nearest_visited.specs.Distance.{other_divisions}
use Rattle.nearest_met.proofs.distances.weights.Given as goal

abbrev pub invariant-loop-h : goal.invariant-loop-h
invariant-loop-h l =
    ((k : ℕ) → k < l.h → (at l.a k ≡ other_divisions (shape l.g) (block_of (shape l.g) k)) × (at l.a k ≤ 60000))
    × (length l.a ≡ 16)
