-- `shifts::raise` meets its contract. The invariant: what is left of the way makes of the present coefficients what
-- the whole way makes of the old ones, and within the width. Assumes nothing.
use Rattle.std.proofs.Common.{◌≡◌, refl, ◌+◌, ◌-◌}
use borrow.Author.Tests.{ltb-true}
use native.Mathlib.Numerals.{add-one}
use native.Mathlib.Omega.{arith}
use Rattle.grid_points.specs.Grid.{at}
use Rattle.rules.proofs.ChangedBefore.{changed_all, changed_onward, changed_spent, tested_here}
use Rattle.arrays.proofs.shifts.raise.Goals as goal

pub loop-init : goal.loop-init
loop-init c = record { same = refl; passing = c.requires.c_value; low = omega arith; most = omega arith }

pub overflow_add-c : goal.overflow_add-c
overflow_add-c c =
    let l = c.loop in
    omega (arith, ltb-true (at l.c l.at) 65535 (tested_here l.invariant (omega arith) c.if-at-b.false))

pub loop-preserved : goal.loop-preserved
loop-preserved c =
    let l = c.loop in
    let left : 16 - (l.counter + 1) ≡ 16 - l.counter - 1 = omega arith in
    rw left (changed_onward l.invariant (omega arith) c.if-at-b.false c.requires.h_bound.1
    (add-one (at l.c l.at)) c.from-at.ensures)

pub returns-after-loop : goal.returns-after-loop
returns-after-loop c = changed_spent c.loop.invariant (omega arith)

pub returns-then-at-b : goal.returns-then-at-b
returns-then-at-b c = changed_all c.loop.invariant c.if-at-b.true
