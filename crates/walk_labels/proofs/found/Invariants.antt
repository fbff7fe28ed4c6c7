-- `found` meets its contract. The invariant: none of the first i marks is the one. Assumes nothing.
use mathlib.Core.Path.{◌≡◌}
use Prim.Native.Nat.{ℕ, ◌<◌}
use Rattle.grid_points.specs.Grid.{at}
use Rattle.walk_labels.proofs.found.Given as goal

abbrev pub invariant-loop-i : goal.invariant-loop-i
invariant-loop-i l = (j : ℕ) → j < l.i → at l.marks j ≡ l.mark → ⊥
