-- `lists::remove` meets its contract. The invariant: the entries less entry k are the old ones less the entry asked
-- for, and the last of the list and what stands behind it are as they were. Assumes nothing.
use mathlib.Core.Path.{◌≡◌}
use Prim.Native.Nat.{◌-◌}
use lib.ListN.{length, drop, take}
use Rattle.combinatorics.specs.Edits.{remove_at}
use Rattle.arrays.proofs.lists.remove.Given as goal

abbrev pub invariant-loop-k : goal.invariant-loop-k
invariant-loop-k l = (length l.a ≡ 16) × (remove_at l.k (take l.n l.a) ≡ remove_at l.at (take l.n l.initial.a))
    × (drop (l.n - 1) l.a ≡ drop (l.n - 1) l.initial.a)
