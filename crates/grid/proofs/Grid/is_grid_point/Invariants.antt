-- `grid::Grid::is_grid_point` meets its contract. The invariant: the blocks so far add up. Assumes nothing.
use mathlib.Core.Bool.{true}
use mathlib.Core.Path.{◌≡◌}
use Prim.Native.Nat.{◌≤◌}
use Rattle.combinatorics.specs.Lists.{all, up_from}
use Rattle.grid_points.proofs.Points.{block_sum}
use Rattle.grid.specs.Made.{shape}
use Rattle.grid.proofs.Grid.is_grid_point.Given as goal

abbrev pub invariant-loop-j : goal.invariant-loop-j
invariant-loop-j l =
    let g = shape l.self in
    (all (block_sum g.sizes g.divisions l.y) (up_from 0 l.j) ≡ true) × (l.self.blocks ≤ 6)
