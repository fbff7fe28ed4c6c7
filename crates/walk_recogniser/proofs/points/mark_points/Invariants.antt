-- `points::mark_points` meets its contract. The invariant: k steps are made, and the points before have their marks.
-- Assumes nothing.
use Rattle.walk_recogniser.proofs.Steps.{Reached}
use Rattle.walk_recogniser.proofs.points.mark_points.Given as goal

abbrev pub invariant-loop-k : goal.invariant-loop-k
invariant-loop-k l = Reached l.g l.held l.n l.marks l.steps l.k
