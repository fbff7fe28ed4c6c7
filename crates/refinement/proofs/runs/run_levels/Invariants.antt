-- `refinement::runs::run_levels` meets its contract. The invariant: the levels so far are in the array and in both
-- buffers. Assumes nothing.
use mathlib.Core.Path.{◌≡◌}
use Prim.Native.Nat.{◌≤◌}
use Rattle.refinement_levels.specs.Buffers.{numbers_after}
use Rattle.refinement.proofs.AllRuns.{labels_after}
use Rattle.refinement.specs.Answer.{levels_of}
use Rattle.refinement.specs.Runs.{game_of}
use Rattle.refinement.proofs.runs.run_levels.Given as goal

abbrev pub invariant-loop-i : goal.invariant-loop-i
invariant-loop-i l =
    (l.found ≡ levels_of (game_of l.grids l.start l.losses l.factor) l.i)
    × (l.labels ≡ labels_after (game_of l.grids l.start l.losses l.factor) l.i l.initial.labels)
    × (l.answer ≡ numbers_after (game_of l.grids l.start l.losses l.factor) l.i l.initial.answer)
    × (l.i ≤ l.levels)
