-- `last_positive` meets its contract: only 0 stands behind the place. Assumes nothing.
use Prim.Native.Nat.{◌-◌}
use mathlib.Core.Path.{◌≡◌}
use lib.ListN.{length, drop, replicate}
use Rattle.points_in_order.proofs.last_positive.Given as goal

abbrev pub invariant-loop-i : goal.invariant-loop-i
invariant-loop-i l = drop l.i l.block ≡ replicate (length l.block - l.i) 0
