-- `changes::other` meets its contract. The invariant: the first mark that is not among the others stands from j on.
-- Assumes nothing.
use mathlib.Core.Path.{◌≡◌}
use Prim.Native.Nat.{suc}
use lib.Dec.{eqb}
use lib.ListN.{drop, take}
use Rattle.trail.specs.Change.{outside}
use Rattle.walk_preview.proofs.changes.other.Given as goal

abbrev pub invariant-loop-j : goal.invariant-loop-j
invariant-loop-j l = outside eqb (take (suc l.k) l.others) (drop l.j (take (suc l.n) l.marks))
    ≡ outside eqb (take (suc l.k) l.others) (take (suc l.n) l.marks)
