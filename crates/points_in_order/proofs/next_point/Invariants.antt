-- `next_point` meets its contract: the blocks passed have begun again, and the point is the next where one has moved.
-- Assumes nothing.
use mathlib.Core.Bool.{false}
use mathlib.Core.Path.{◌≡◌}
use lib.ListN.{length}
use Rattle.points_in_order.proofs.PointAfter.{Passed}
use Rattle.points_in_order.proofs.next_point.Given as goal

abbrev pub invariant-loop-j : goal.invariant-loop-j
invariant-loop-j l =
    Passed l.sizes l.initial.point l.j false l.point × (length l.point ≡ length l.initial.point)
