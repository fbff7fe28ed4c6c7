-- `first_point` meets its contract: the blocks passed have their divisions at their last indices. Assumes nothing.
use mathlib.Core.Path.{◌≡◌, sym, ◌∙◌}
use Prim.Native.Nat.{◌+◌, ◌≤◌}
use native.Mathlib.Omega.{arith}
use lib.ListN.{take, replicate}
use Rattle.combinatorics.proofs.Fronts.{front-none}
use Rattle.combinatorics.specs.Lists.{sum}
use Rattle.grid_points.proofs.Accepted.{accepted, size-two}
use Rattle.grid_points.proofs.Round.{block-fits}
use Rattle.grid_points.specs.Grid.{lent}
use Rattle.points_in_order.proofs.PointAfter.{first_turn}
use Rattle.points_in_order.proofs.first_point.Goals as goal
use Rattle.points_in_order.proofs.first_point.Goals.{After-from-in-loop-j}

-- the last index of a turn's block
last-is : (c : After-from-in-loop-j)
    → (c.from.result
    ≡ sum (take c.loop-j.j
    c.args.sizes.now))
    × (1 ≤ c.from.result + c.from-in-loop-j.result)
    × (c.from.result + c.from-in-loop-j.result ≤ 16)
last-is c =
    let l = c.loop-j in
    let g = lent c.args.sizes.now c.args.divisions.now in
    let e : c.from.result ≡ sum (take l.j c.args.sizes.now) =
    c.from.ensures ∙ c.requires.0.first l.j (omega arith) in
    let t = (size-two g l.invariant.1 l.j (omega arith)).0 in
    (e, omega arith, omega (arith, block-fits c.args.sizes.now l.j, l.invariant.1.few_indices))

pub loop-j-init : goal.loop-j-init
loop-j-init c = (
  c.requires.1 ∙ sym (front-none (replicate 16 0)),
  accepted (lent c.args.sizes.now c.args.divisions.now) c.requires.0.accepted,
)

pub bounds-point-last : goal.bounds-point-last
bounds-point-last c = omega (arith, last-is (goal.at.bounds-point-last c).After-from-in-loop-j)

pub loop-j-preserved : goal.loop-j-preserved
loop-j-preserved c =
    let l = c.loop-j in (
      rw (l.invariant.0, (last-is (goal.at.loop-j-preserved c).After-from-in-loop-j).0, c.from-in-loop-j.ensures)
          (first_turn c.args.sizes.now c.args.divisions.now l.j l.invariant.1 (omega arith)),
      l.invariant.1,
    )
