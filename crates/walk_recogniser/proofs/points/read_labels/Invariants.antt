-- `points::read_labels` meets its contract. The invariant: the first k marks have their labels. Assumes nothing.
use Rattle.walk_recogniser.proofs.Labels.{PutBelow}
use Rattle.walk_recogniser.proofs.points.read_labels.Given as goal

abbrev pub invariant-loop-k : goal.invariant-loop-k
invariant-loop-k l = PutBelow l.table l.initial.marks l.marks l.k
