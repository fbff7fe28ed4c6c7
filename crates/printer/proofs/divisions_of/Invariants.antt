-- `printer::divisions_of` meets its contract. The invariant: the divisions of the indices so far stand at the front.
-- Assumes nothing.
use mathlib.Core.List.{map}
use mathlib.Core.Path.{◌≡◌}
use Prim.Native.Nat.{◌≤◌}
use Rattle.combinatorics.specs.Lists.{up_from}
use Rattle.combinatorics.specs.Front.{padded}
use Rattle.grid_points.specs.Grid.{division, block_of}
use Rattle.grid.specs.Made.{shape}
use Rattle.printer.proofs.divisions_of.Given as goal

abbrev pub invariant-loop-h : goal.invariant-loop-h
invariant-loop-h l =
    (l.divisions ≡ padded 16 (map (λ k. division (shape l.grid) (block_of (shape l.grid) k)) (up_from 0 l.h)))
    × (l.grid.indices ≤ 16)
