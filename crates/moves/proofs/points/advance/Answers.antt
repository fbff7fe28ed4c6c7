-- `advance` meets its contract. The invariant: y is the point after k steps. The measure: the steps left. Assumes
-- nothing.
use Rattle.std.proofs.Common.{◌≡◌, refl, ◌∙◌}
use native.Mathlib.Omega.{arith}
use Rattle.rules.specs.Moves.{source}
use Rattle.rules.proofs.FirstMet.{entry-below}
use Rattle.rules.proofs.PointsAfter.{after_none, after-one_more, after_taken, step_ready}
use Rattle.moves.proofs.points.advance.Goals as goal

pub loop-k-init : goal.loop-k-init
loop-k-init c =
    let a = c.args in
    after_none (source a.round.now a.u) a.order.now a.y.now

pub bounds-order-k : goal.bounds-order-k
bounds-order-k c = omega (arith, c.requires.ready_point.low, c.requires.ready_point.few)

pub first_outside-b-requires : goal.first_outside-b-requires
first_outside-b-requires c =
    let a = c.args in (
      entry-below a.order.now a.i c.loop-k.k (omega arith) c.requires.ready_point.indices,
      c.requires.indices_below,
    )

pub shift-requires : goal.shift-requires
shift-requires c =
    let a = c.args in
    let l = c.loop-k in
    let b = c.first_outside-b in
    let ready = step_ready (source a.round.now a.u) a.order.now a.y.now a.i a.i l.k _ b.result l.y
    c.loop-k-test.true (omega arith) c.requires.ready_point l.invariant refl b.ensures.0 in
    let below = entry-below a.order.now a.i l.k (omega arith) c.requires.ready_point.indices in
    record { h_bound = (below, b.ensures.1); h_bound_2 = ready }

pub loop-k-preserved : goal.loop-k-preserved
loop-k-preserved c =
    let a = c.args in
    let l = c.loop-k in
    let b = c.first_outside-b in
    let on = after-one_more (source a.round.now a.u) a.order.now a.y.now l.k _ b.result refl b.ensures.0 in
    c.shift.ensures ∙ rw l.invariant on

pub returns : goal.returns
returns c =
    let a = c.args in
    let l = c.loop-k in
    let all-i : l.k ≡ a.i = omega arith in
    l.invariant ∙ rw all-i (after_taken (source a.round.now a.u) a.order.now a.y.now a.i a.i (omega arith))
