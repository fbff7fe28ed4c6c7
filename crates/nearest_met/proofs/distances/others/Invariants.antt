-- `nearest_met::distances::others` meets its contract. The invariant: the product of the other divisions so far.
-- Assumes nothing.
use mathlib.Core.Path.{◌≡◌}
use lib.ListN.{take}
use Rattle.nearest_visited.proofs.Distances.{part_others}
use Rattle.nearest_met.proofs.distances.others.Given as goal

abbrev pub invariant-loop-i : goal.invariant-loop-i
invariant-loop-i l =
    l.product ≡ part_others (take l.fn.g.blocks l.fn.g.divisions) l.j l.i
