-- `lists::insert` meets its contract. The invariant: x stored at k would be x put before entry k, and what stands
-- behind the list is as it was. Assumes nothing.
use mathlib.Core.Path.{◌≡◌}
use Prim.Native.Nat.{suc, ◌≤◌}
use lib.ListN.{length, drop, take, set}
use Rattle.combinatorics.specs.Edits.{insert_at}
use Rattle.arrays.proofs.lists.insert.Given as goal

abbrev pub invariant-loop-k : goal.invariant-loop-k
invariant-loop-k l = (l.at ≤ l.k) × (length l.a ≡ 16) × (take (suc l.n) (set l.a l.k l.x) ≡ insert_at l.k l.x (take l.n l.initial.a))
    × (drop (suc l.n) l.a ≡ drop (suc l.n) l.initial.a)
