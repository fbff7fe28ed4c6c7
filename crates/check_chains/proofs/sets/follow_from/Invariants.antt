-- `sets::follow_from` meets its contract. The invariant: the coefficients so far. The measure: the indices left.
-- Assumes nothing.
use Rattle.check_chains.proofs.Following.{Following}
use Rattle.check_chains.proofs.sets.follow_from.Given as goal

abbrev pub invariant-loop-h : goal.invariant-loop-h
invariant-loop-h l =
    Following l.p l.z l.first l.end l.c l.old l.set l.one l.h
