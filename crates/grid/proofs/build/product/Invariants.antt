-- `grid::build::product` meets its contract. The invariant: the product of the counts so far, whichever grid they are
-- of. Assumes nothing.
use mathlib.Core.Path.{◌≡◌}
use Prim.Native.Nat.{ℕ}
use lib.ListN.{take}
use Rattle.grid.specs.Build.{BlocksCounted}
use Rattle.grid_points.specs.Grid.{Grid}
use Rattle.combinatorics.specs.Counting.{binomial_product}
use Rattle.grid.proofs.build.product.Given as goal

-- the product over the first j blocks, and what one block more makes of it
abbrev pub so_far : Grid → ℕ → ℕ
so_far g j = binomial_product (take j g.sizes) (take j g.divisions)

abbrev pub invariant-loop-count : goal.invariant-loop-count
invariant-loop-count l = (g : Grid) → BlocksCounted g l.counts l.blocks → l.product ≡ so_far g l.count-index
