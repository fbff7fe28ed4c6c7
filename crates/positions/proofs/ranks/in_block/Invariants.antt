-- `ranks::in_block` meets its contract. The invariant: the rank and the position of the k coordinates to come make the
-- position of all. Assumes nothing.
use mathlib.Core.List.{map}
use mathlib.Core.Path.{◌≡◌}
use Prim.Native.Nat.{◌+◌, ◌-◌, ◌≤◌}
use Rattle.combinatorics.specs.Lists.{sum, up_from}
use Rattle.positions.proofs.Positions.{rank_of}
use Rattle.grid_points.specs.Grid.{at}
use Rattle.positions.specs.Steps.{after_steps}
use Rattle.positions.proofs.ranks.in_block.Given as goal

abbrev pub invariant-loop-k : goal.invariant-loop-k
invariant-loop-k l =
    let z = after_steps l.y l.steps in
    let i = l.first + l.size - l.k in
    (2 ≤ l.k)
    × (l.left ≤ l.division)
    × (sum (map (at z) (up_from i l.k)) ≡ l.left)
    × (l.rank + rank_of z i l.k l.left ≡ rank_of z l.first l.size l.division)
