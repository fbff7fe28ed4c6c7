-- `shelf::passes::is_shelf` meets its contract. The invariant: the sheets passed name rightly, and what they name is
-- marked. Assumes nothing.
use Prim.Native.Nat.{◌≤◌}
use lib.ListN.{length}
use Rattle.shelf.proofs.Entries.{Checked}
use Rattle.shelf.proofs.passes.is_shelf.Given as goal

abbrev pub invariant-loop-k : goal.invariant-loop-k
invariant-loop-k l = Checked l.list l.k l.marks × (l.k ≤ l.count) × (l.count ≤ 1000) × (l.count ≤ length l.list)
