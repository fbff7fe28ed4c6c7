-- `pass` meets its contract. The loop's invariant: the pass stands at the place whose number is the budget less the
-- places that are left. Assumes nothing.
use Rattle.std.proofs.Common.{◌-◌}
use Rattle.moves.specs.Held.{state_of}
use Rattle.path_pass.specs.Finish.{problem_in}
use Rattle.path_pass.proofs.Passing.{Passing}
use Rattle.path_pass.proofs.pass.Given as goal

abbrev pub invariant-loop-left : goal.invariant-loop-left
invariant-loop-left l =
    Passing (problem_in l.g l.fn.held.first l.table) (l.budget - l.left) l.at (state_of l.round l.held l.at.status)
