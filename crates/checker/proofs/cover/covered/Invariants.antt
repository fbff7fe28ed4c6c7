-- `cover::covered` meets its contract. The invariant: the labels and the zeros of the points from k on. Assumes nothing.
use mathlib.Core.List.{map}
use Prim.Native.Nat.{◌-◌, ◌≤◌}
use Rattle.combinatorics.specs.Lists.{up_from}
use Rattle.grid.specs.Made.{shape}
use Rattle.check_chains.specs.Listed.{listed_at}
use Rattle.checker.proofs.Covering.{Covering}
use Rattle.checker.proofs.cover.covered.Given as goal

abbrev pub invariant-loop-k : goal.invariant-loop-k
invariant-loop-k l =
    (l.k ≤ l.count)
    × Covering (shape l.g) l.labels (map (listed_at l.g.indices l.numbers) (up_from l.k (l.count - l.k)))
    l.labelled l.zero
