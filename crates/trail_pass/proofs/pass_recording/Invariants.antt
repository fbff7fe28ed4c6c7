-- `trail_pass::pass_recording` meets its contract. The loop's invariant: the pass stands at the place whose number is
-- the budget less the places that are left, and has written the records of the places before it. Assumes nothing.
use Prim.Native.Nat.{◌-◌}
use Rattle.path_pass.proofs.Passing.{Passing}
use Rattle.path_pass.specs.Finish.{problem_in}
use Rattle.moves.specs.Held.{state_of}
use Rattle.trail_pass.proofs.OnTrail.{Recording}
use Rattle.trail_pass.proofs.pass_recording.Given as goal

abbrev pub invariant-loop-left : goal.invariant-loop-left
invariant-loop-left l =
    let s = state_of l.round l.held l.at.status in
    Passing (problem_in l.g l.fn.held.first l.table) (l.budget - l.left) l.at s
    × Recording l.g l.fn.held.first l.table l.writes l.initial.trail (l.budget - l.left) s l.trail l.before l.from l.end
