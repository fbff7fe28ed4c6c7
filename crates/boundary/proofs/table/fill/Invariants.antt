-- `fill` meets its contract: the bytes passed are those of the table. Assumes nothing.
use mathlib.Core.List.{List}
use mathlib.Core.Path.{◌≡◌}
use Prim.Native.Nat.{ℕ, ◌≤◌}
use lib.ListN.{length, take}
use Rattle.combinatorics.specs.Front.{front}
use Rattle.boundary.specs.Lent.{FilledBy}
use Rattle.boundary.proofs.table.fill.Given as goal

abbrev pub invariant-loop-i : goal.invariant-loop-i
invariant-loop-i l =
    (l.from ≤ l.i) × (l.i ≤ l.to) × (length l.labels ≡ length l.initial.labels)
    × ((table buffer : List ℕ) → length table ≡ length l.initial.labels → length buffer ≡ length table
    → l.initial.labels ≡ front (take l.from table) buffer → FilledBy table l.old l.found l.from l.to
    → l.labels ≡ front (take l.i table) buffer)
