-- `refinement_questions::grids::next_divisions` meets its contract. The invariant: the divisions so far, times k, stand
-- at the front. Assumes nothing.
use mathlib.Core.Path.{◌≡◌}
use Prim.Native.Nat.{◌≤◌}
use lib.ListN.{replicate, take}
use Rattle.combinatorics.specs.Front.{front}
use Rattle.refinement_levels.specs.Levels.{times}
use Rattle.refinement_questions.proofs.grids.next_divisions.Given as goal

abbrev pub invariant-loop-j : goal.invariant-loop-j
invariant-loop-j l =
    (l.numbers ≡ front (take l.j (times l.factor (take l.grid.blocks l.grid.divisions))) (replicate 6 0)) × (l.j ≤ l.grid.blocks) × (l.grid.blocks ≤ 6)
