-- `nearest_met::distances::distance_of` meets its contract. The invariant: the sum over the indices passed, whichever
-- grid the weights are of, and that each term is small. Assumes nothing.
use mathlib.Core.List.{map}
use mathlib.Core.Path.{◌≡◌}
use Prim.Native.Nat.{◌*◌, ◌≤◌}
use Rattle.combinatorics.specs.Lists.{sum, up_from}
use Rattle.grid_points.specs.Grid.{Grid}
use Rattle.nearest_met.specs.Measure.{CanMeasure}
use Rattle.nearest_visited.proofs.Distances.{term}
use Rattle.nearest_met.proofs.distances.distance_of.Given as goal

abbrev pub invariant-loop-h : goal.invariant-loop-h
invariant-loop-h l =
    ((g : Grid) → CanMeasure g l.weights l.w l.m → l.total ≡ sum (map (term g l.w l.y) (up_from 0 l.h)))
    × (l.total ≤ l.h * 3932100000)
