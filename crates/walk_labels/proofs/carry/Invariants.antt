-- `carry` meets its contract. The invariant: the labels of the first j points are put, and it is told whether one of
-- them came in. Assumes nothing.
use mathlib.Core.List.{List}
use Prim.Native.Nat.{ℕ}
use Rattle.walk_labels.proofs.Carrying.{CarriedBelow}
use Rattle.walk_labels.specs.Carrying.{CarriesOver}
use Rattle.walk_labels.proofs.carry.Given as goal

abbrev pub invariant-loop-j : goal.invariant-loop-j
invariant-loop-j l = (full : List ℕ) → CarriesOver l.marks l.n l.carried l.next l.k l.table full
    → CarriedBelow l.marks l.n l.next full l.labels l.came_in l.j
