-- `refusals::whole_points` meets its contract. The invariant: the points counted and the numbers left make up the list.
-- The measure: the numbers left. Assumes nothing.
use mathlib.Core.Path.{sym}
use native.Mathlib.Nat.{add-mul, div-eq_of_lt-le}
use native.Mathlib.Omega.{arith}
use Rattle.checker.proofs.refusals.whole_points.Goals as goal

pub loop-left-preserved : goal.loop-left-preserved
loop-left-preserved c =
    let l = c.loop-left in
    let m = c.args.m in
    (omega (arith, add-mul l.count 1 m, l.invariant.0), omega (arith, l.invariant.1, c.requires))

pub returns : goal.returns
returns c =
    let l = c.loop-left in
    let m = c.args.m in
    sym (div-eq_of_lt-le {k = l.count} m (omega (arith, l.invariant.0)) (omega (arith, add-mul l.count 1 m, l.invariant.0)))

pub loop-left-init : goal.loop-left-init
loop-left-init c = (omega arith, omega arith)
