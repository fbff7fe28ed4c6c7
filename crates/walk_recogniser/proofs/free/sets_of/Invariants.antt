-- `free::sets_of` meets its contract. The invariant: the masks are those of the first indices. Assumes nothing.
use Rattle.walk_recogniser.specs.Pieces.{AreTandU}
use Rattle.walk_recogniser.proofs.free.sets_of.Given as goal

abbrev pub invariant-loop-index : goal.invariant-loop-index
invariant-loop-index l = AreTandU l.order l.index-index l.m l.zeros l.t l.u
