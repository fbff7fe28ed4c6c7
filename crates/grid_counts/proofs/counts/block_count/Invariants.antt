-- `counts::block_count` meets its contract. The invariant: the row holds the binomials of r, capped.
-- Assumes nothing.
use mathlib.Core.Path.{◌≡◌}
use lib.ListN.{length}
use Rattle.grid_counts.specs.Capped.{IsRow}
use Rattle.grid_counts.proofs.counts.block_count.Given as goal

abbrev pub invariant-loop : goal.invariant-loop
invariant-loop l = IsRow l.counter l.last l.row × (length l.row ≡ 16)
