-- `bounds::terms` meets its contract. The invariant: the product has k factors, and the sum the terms up to it.
-- Assumes nothing.
use mathlib.Core.List.{map}
use mathlib.Core.Path.{◌≡◌}
use Prim.Native.Nat.{◌+◌}
use Rattle.combinatorics.specs.Counting.{falling}
use Rattle.combinatorics.specs.Lists.{sum as total, up_from}
use Rattle.grid_counts.proofs.bounds.terms.Given as goal

abbrev pub invariant-loop-k : goal.invariant-loop-k
invariant-loop-k l =
    (l.product ≡ falling l.m l.k) × (l.sum ≡ total (map (falling l.m) (up_from 0 (l.k + 1))))
