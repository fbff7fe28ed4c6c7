-- `refinement_questions::grids::made_levels` meets its contract. The invariant: the grids of the levels so far are
-- made. Assumes nothing.
use Prim.Native.Nat.{◌≤◌}
use Rattle.grid_points.specs.Grid.{lent}
use Rattle.refinement_questions.proofs.MadeLevels.{SomeMade}
use Rattle.refinement_questions.proofs.grids.made_levels.Given as goal

abbrev pub invariant-loop-i : goal.invariant-loop-i
invariant-loop-i l =
    SomeMade (lent l.sizes l.divisions) l.factor l.i l.grids l.made × (l.i ≤ l.levels)
