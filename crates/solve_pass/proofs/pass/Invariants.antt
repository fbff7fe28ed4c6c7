-- `pass` meets its contract. The loop's invariant: beside the state that is held there is one with positions, which
-- stands at the place whose number is the budget less the places that are left, and the labels read are those up to it.
-- Assumes nothing.
use Rattle.std.proofs.Common.{take, ◌-◌}
use Rattle.game_weighed.specs.Levels.{game_grid}
use Rattle.moves.specs.Held.{state_of}
use Rattle.refinement_levels.specs.Levels.{game_problem}
use Rattle.solve_pass.proofs.Passed.{Passing}
use Rattle.solve_pass.proofs.pass.Given as goal

abbrev pub invariant-loop-left : goal.invariant-loop-left
invariant-loop-left l =
    Passing (game_problem (game_grid l.game) (take l.indices l.fn.held.first) l.game.losses.now) (l.budget - l.left) l.at
    (state_of l.round l.held l.at.status)
