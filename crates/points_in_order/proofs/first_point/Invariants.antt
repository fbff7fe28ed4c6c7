-- `first_point` meets its contract: the blocks passed have their divisions at their last indices. Assumes nothing.
use mathlib.Core.Path.{◌≡◌}
use lib.ListN.{take, replicate}
use Rattle.combinatorics.specs.Front.{front}
use Rattle.grid_points.proofs.Accepted.{Accepted}
use Rattle.grid_points.specs.Grid.{lent}
use Rattle.points_in_order.specs.PointAfter.{first_point}
use Rattle.points_in_order.proofs.first_point.Given as goal

abbrev pub invariant-loop-j : goal.invariant-loop-j
invariant-loop-j l =
    (l.point ≡ front (first_point (take l.j l.sizes) (take l.j l.divisions)) (replicate 16 0))
    × Accepted (lent l.sizes l.divisions)
