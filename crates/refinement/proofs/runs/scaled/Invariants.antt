-- `refinement::runs::scaled` meets its contract. The invariant: the numbers so far, times k, stand at the front.
-- Assumes nothing.
use mathlib.Core.Path.{◌≡◌}
use Prim.Native.Nat.{◌≤◌}
use lib.ListN.{length, replicate, take}
use Rattle.combinatorics.specs.Front.{front}
use Rattle.refinement_levels.specs.Levels.{times}
use Rattle.refinement.proofs.runs.scaled.Given as goal

abbrev pub invariant-loop-h : goal.invariant-loop-h
invariant-loop-h l =
    (l.start ≡ front (take l.h (times l.factor l.numbers)) (replicate 16 0)) × (l.h ≤ length l.numbers)
