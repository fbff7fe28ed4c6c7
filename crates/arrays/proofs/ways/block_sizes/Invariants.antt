-- `ways::block_sizes` meets its contract. The invariant: the sizes of the blocks of the indices below h are there. The
-- measure: the indices left. Assumes nothing.
use mathlib.Core.Path.{◌≡◌}
use Prim.Native.Nat.{ℕ, ◌-◌, ◌<◌}
use lib.ListN.{length}
use Rattle.grid_points.specs.Grid.{at}
use Rattle.arrays.proofs.ways.block_sizes.Given as goal

abbrev pub invariant-loop-h : goal.invariant-loop-h
invariant-loop-h l = (length l.a ≡ 16) × ((k : ℕ) → k < l.h → at l.a k ≡ at l.g.sizes (at l.g.block k))
