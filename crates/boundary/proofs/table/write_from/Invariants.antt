-- `write_from` meets its contract: the new labels of the points passed stand at the front of the buffer, and a turn
-- passes a point and those behind it that are labelled alike. Assumes nothing.
use mathlib.Core.List.{[]}
use mathlib.Core.Path.{◌≡◌}
use Prim.Native.Nat.{◌-◌, ◌≤◌, ◌<◌}
use lib.ListN.{length, get_or, take}
use Rattle.combinatorics.specs.Front.{front}
use Rattle.grid_points.specs.Grid.{num_points, points, lent}
use Rattle.boundary_labels.specs.Boundary.{boundary_table}
use Rattle.boundary.proofs.table.write_from.Given as goal

abbrev pub invariant-loop-k : goal.invariant-loop-k
invariant-loop-k l =
    let g = lent l.sizes l.divisions in
    (l.labels ≡ front (take l.k (boundary_table g l.old)) l.initial.labels) × (l.k < num_points g → l.point ≡ get_or (points g) l.k [])
    × (l.k ≤ length l.initial.labels) × (length l.labels ≡ length l.initial.labels) × (length l.point ≡ length l.initial.point)

abbrev pub decreases-loop-k : goal.decreases-loop-k
decreases-loop-k l = length l.initial.labels - l.k
