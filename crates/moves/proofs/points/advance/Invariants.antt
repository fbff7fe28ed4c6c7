-- `points::advance` meets its contract. The invariant: the first k steps have been made. Assumes nothing.
use Rattle.std.proofs.Common.{◌≡◌}
use Rattle.rules.specs.Read.{point_after}
use Rattle.rules.specs.Moves.{source}
use Rattle.moves.proofs.points.advance.Given as goal

abbrev pub invariant-loop-k : goal.invariant-loop-k
invariant-loop-k l = l.y ≡ point_after (source l.round l.u) l.order l.initial.y l.k
