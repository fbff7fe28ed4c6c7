-- `grid::build::block_of` meets its contract. The invariant: the block is found from block j on with what is left of
-- the index. Assumes nothing.
use mathlib.Core.Path.{◌≡◌}
use Prim.Native.Nat.{◌+◌, ◌<◌}
use lib.ListN.{drop}
use Rattle.combinatorics.specs.Lists.{sum}
use Rattle.grid_points.specs.Grid.{block_in}
use Rattle.grid.proofs.build.block_of.Given as goal

abbrev pub invariant-loop-j : goal.invariant-loop-j
invariant-loop-j l =
    (l.left < sum (drop l.j l.sizes)) × (l.j + block_in (drop l.j l.sizes) l.left ≡ block_in l.sizes l.h)
