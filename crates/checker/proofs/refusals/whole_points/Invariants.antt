-- `refusals::whole_points` meets its contract. The invariant: the points counted and the numbers left make up the list.
-- The measure: the numbers left. Assumes nothing.
use mathlib.Core.Path.{◌≡◌}
use Prim.Native.Nat.{◌+◌, ◌*◌, ◌≤◌}
use Rattle.checker.proofs.refusals.whole_points.Given as goal

abbrev pub invariant-loop-left : goal.invariant-loop-left
invariant-loop-left l = (l.count * l.m + l.left ≡ l.length) × (l.count + l.left ≤ l.length)

abbrev pub decreases-loop-left : goal.decreases-loop-left
decreases-loop-left l = l.left
