-- `points::mark_points` meets its contract. Assumes nothing.
use mathlib.Core.Path.{refl}
use Prim.Native.Nat.{◌<◌}
use lib.ListN.{get_or}
use Rattle.grid.proofs.Fields.{indices-few}
use Rattle.walk_recogniser.proofs.Steps.{cannot, reached_more, reached-none}
use native.Mathlib.Omega.{arith}
use Rattle.walk_recogniser.proofs.points.mark_points.Goals as goal
use Rattle.walk_recogniser.proofs.points.mark_points.Goals.{After-mark_at}

pub loop-k-init : goal.loop-k-init
loop-k-init c = reached-none c.requires.measured.0.made c.requires.can_mark

low : (c : After-mark_at) → get_or c.args.held.now.order c.loop-k.k 0 < 16
low c = omega (
  arith,
  c.requires.can_mark.below c.loop-k.k c.loop-k-test.true,
  indices-few c.args.g c.requires.measured.0.made,
)

pub first_outside-b-requires : goal.first_outside-b-requires
first_outside-b-requires c = (low (goal.at.first_outside-b-requires c).After-mark_at, c.requires.measured.1)

pub returns-then-from-le16 : goal.returns-then-from-le16
returns-then-from-le16 c =
    cannot c.requires.measured.0.made c.requires.can_mark c.loop-k.invariant c.loop-k-test.true refl
    c.first_outside-b.ensures.0 (omega arith)

pub bounds-steps-h : goal.bounds-steps-h
bounds-steps-h c = low (goal.at.bounds-steps-h c).After-mark_at

pub loop-k-preserved : goal.loop-k-preserved
loop-k-preserved c =
    reached_more c.requires.measured.0.made c.requires.can_mark c.loop-k.invariant c.loop-k-test.true refl
    c.first_outside-b.ensures.0 (omega arith) c.mark_at.result c.mark_at.ensures.is
