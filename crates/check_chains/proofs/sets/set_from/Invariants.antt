-- `sets::set_from` meets its contract. The invariant: the blocks so far have their sets. The measure: the blocks left.
-- Assumes nothing.
use Prim.Native.Nat.{◌≤◌}
use lib.ListN.{take}
use Rattle.check_chains.proofs.WholeSets.{AllAdded}
use Rattle.check_chains.proofs.sets.set_from.Given as goal

abbrev pub invariant-loop-j : goal.invariant-loop-j
invariant-loop-j l = AllAdded (take l.g.blocks l.g.sizes) l.p l.z l.j l.set × (l.j ≤ l.g.blocks) × (l.g.blocks ≤ 6)
