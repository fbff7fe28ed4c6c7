-- `lists::find` meets its contract. The invariant: the search from entry k on finds what the search from the first
-- finds. Assumes nothing.
use mathlib.Core.List.{map}
use mathlib.Core.Path.{◌≡◌}
use Prim.Native.Nat.{◌-◌}
use lib.ListN.{take, drop}
use Rattle.combinatorics.specs.Edits.{found_from, found}
use Rattle.rules.specs.Moves.{mark_label}
use Rattle.arrays.proofs.lists.find.Given as goal

abbrev pub invariant-loop-k : goal.invariant-loop-k
invariant-loop-k l = (found_from l.k l.x l.but (drop l.k (map mark_label (take l.n l.a))) ≡ found l.x l.but (map mark_label (take l.n l.a)))
