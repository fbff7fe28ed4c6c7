-- `nearest_met::distances::distance_of` meets its contract. The invariant: the sum over the indices passed, whichever
-- grid the weights are of, and that each term is small. Assumes nothing.
use mathlib.Core.Path.{◌≡◌, ◌∙◌}
use Prim.Native.Nat.{◌*◌, ◌≤◌}
use native.Mathlib.Nat.{mul-le-mul}
use native.Mathlib.Omega.{arith}
use Rattle.grid_points.specs.Grid.{at}
use Rattle.nearest_visited.proofs.Distances.{distance-front, distance_turn}
use Rattle.nearest_met.proofs.distances.distance_of.Goals as goal

pub loop-h-preserved : goal.loop-h-preserved
loop-h-preserved c =
    let a = c.args in
    let l = c.loop-h in
    let C = c.requires.1 in
    let t = c.loop-h-test.true in
    let m : c.apart.result * at a.weights.now l.h ≤ 65535 * 60000 =
    mul-le-mul c.apart.ensures.1 (C.each.few l.h (omega (arith, C.indices, t))) in (
      (λ g D. rw (
        distance_turn g a.w.now a.y.now l.h,
        l.invariant.0 g D,
        c.apart.ensures.0,
        D.each.are l.h (omega (arith, D.indices, t)),
      )),
      omega (arith, l.invariant.1),
    )

pub returns : goal.returns
returns c = λ g C.
    let l = c.loop-h in
    let e : l.h ≡ c.args.m = omega arith in
    l.invariant.0 g C ∙ rw e (distance-front g c.args.w.now c.args.y.now c.args.m C.indices)
