-- `spares::spare` meets its contract. The invariant: what the points before k have. Assumes nothing.
use Rattle.walk_next.specs.Spares.{SparesBelow}
use Rattle.walk_next.proofs.spares.spare.Given as goal

abbrev pub invariant-loop-k : goal.invariant-loop-k
invariant-loop-k l = SparesBelow l.marks l.k l.t l.seen l.point
