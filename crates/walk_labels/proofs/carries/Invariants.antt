-- `carries` meets its contract. The invariant: the first k labels agree. Assumes nothing.
use mathlib.Core.Path.{◌≡◌}
use Prim.Native.Nat.{ℕ, ◌<◌}
use Rattle.grid_points.specs.Grid.{at}
use Rattle.walk_labels.specs.Carrying.{labels_in_marks}
use Rattle.walk_labels.proofs.carries.Given as goal

abbrev pub invariant-loop-k : goal.invariant-loop-k
invariant-loop-k l = (j : ℕ) → j < l.k → at l.carried j ≡ at (labels_in_marks l.marks l.n) j
