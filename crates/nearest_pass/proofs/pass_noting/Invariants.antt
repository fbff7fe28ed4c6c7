-- `nearest_pass::pass_noting` meets its contract. The loop's invariant: the pass stands at the place whose number is
-- the budget less the places that are left, and what is kept is that of the vertices before it. Assumes nothing.
use Prim.Native.Nat.{◌-◌}
use lib.ListN.{take}
use Rattle.path_pass.proofs.Passing.{Passing}
use Rattle.path_pass.specs.Finish.{problem_in}
use Rattle.grid.specs.Made.{shape}
use Rattle.moves.specs.Held.{state_of}
use Rattle.place.specs.Path.{path as path_of}
use Rattle.nearest_met.specs.Meeting.{Kept}
use Rattle.nearest_visited.specs.Visited.{vertices_of}
use Rattle.nearest_pass.proofs.pass_noting.Given as goal

abbrev pub invariant-loop-left : goal.invariant-loop-left
invariant-loop-left l =
    let p = problem_in l.g l.fn.held.first l.table in
    record {
      passing : Passing p (l.budget - l.left) l.at (state_of l.round l.held l.at.status);
      kept : Kept (shape l.g) l.w l.given l.initial.list (vertices_of (take (l.budget - l.left) (path_of p).visited)) l.seen
          l.list l.t;
    }
