-- `grid::build::mark_indices` meets its contract. The invariant: the entries of the indices so far stand at the front.
-- Assumes nothing.
use mathlib.Core.List.{[], map}
use mathlib.Core.Path.{◌≡◌}
use Rattle.combinatorics.specs.Lists.{up_from}
use Rattle.combinatorics.specs.Front.{padded}
use Rattle.grid_points.specs.Grid.{block_in, next as after, previous as before, lent}
use Rattle.grid.proofs.build.mark_indices.Given as goal

abbrev pub invariant-loop-h : goal.invariant-loop-h
invariant-loop-h l =
    (l.block ≡ padded 16 (map (block_in l.sizes) (up_from 0 l.h)))
    × (l.previous ≡ padded 16 (map (before (lent l.sizes [])) (up_from 0 l.h)))
    × (l.next ≡ padded 16 (map (after (lent l.sizes [])) (up_from 0 l.h)))
