-- `shelf::passes::last_reached` meets its contract. The invariant: what is reached is the current one among the sheets
-- passed. Assumes nothing.
use mathlib.Core.Path.{◌≡◌}
use Prim.Native.Nat.{◌≤◌}
use lib.ListN.{length}
use Rattle.shelf.specs.Shelf.{OnShelf, current}
use Rattle.shelf.proofs.passes.last_reached.Given as goal

abbrev pub invariant-loop-k : goal.invariant-loop-k
invariant-loop-k l =
    (l.reached ≡ current l.list l.k l.sheet) × OnShelf l.list l.count l.sheet × (l.sheet ≤ l.k) × (l.k ≤ l.count) × (l.count ≤ length l.list)
