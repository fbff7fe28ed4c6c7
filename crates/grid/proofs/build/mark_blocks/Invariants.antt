-- `grid::build::mark_blocks` meets its contract. The invariant: the entries of the blocks so far stand at the front.
-- Assumes nothing.
use mathlib.Core.List.{map}
use mathlib.Core.Path.{◌≡◌}
use Rattle.combinatorics.specs.Lists.{up_from}
use Rattle.combinatorics.specs.Front.{padded}
use Rattle.grid_points.specs.Grid.{first_index, block_count, lent}
use Rattle.grid.proofs.build.mark_blocks.Given as goal

abbrev pub invariant-loop-j : goal.invariant-loop-j
invariant-loop-j l =
    (l.firsts ≡ padded 6 (map (first_index (lent l.sizes l.divisions)) (up_from 0 l.j)))
    × (l.counts ≡ padded 6 (map (block_count (lent l.sizes l.divisions)) (up_from 0 l.j)))
