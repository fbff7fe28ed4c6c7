-- `position` meets its contract. The invariant: the position in the blocks so far, by Horner's rule. Assumes nothing.
use Prim.Native.Nat.{◌≤◌}
use lib.ListN.{take}
use Rattle.positions.proofs.Positions.{Horner}
use Rattle.grid.specs.Made.{shape}
use Rattle.grid_points.specs.Grid.{num_indices}
use Rattle.positions.specs.Steps.{after_steps}
use Rattle.positions.proofs.position.Given as goal

abbrev pub invariant-loop-j : goal.invariant-loop-j
invariant-loop-j l =
    Horner (shape l.g) (take (num_indices (shape l.g)) (after_steps l.y l.steps)) l.j l.at × (l.g.blocks ≤ 6)
