-- `first_largest` meets its contract: the best index leads those passed. Assumes nothing.
use Rattle.game_losses.proofs.FirstLargest.{Leads}
use Rattle.game_corners.specs.Corners.{signed_at}
use Rattle.game_corners.proofs.largest.first_largest.Given as goal

abbrev pub invariant-loop-h : goal.invariant-loop-h
invariant-loop-h l =
    Leads (signed_at l.differences) l.best (signed_at l.differences l.best) l.h
