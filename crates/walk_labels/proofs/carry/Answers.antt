-- `carry` meets its contract. Assumes nothing.
use mathlib.Core.Bool.{cond}
use mathlib.Core.Path.{◌≡◌, ap, ◌∙◌}
use Prim.Native.Nat.{ℕ, suc, ◌+◌, ◌≤◌}
use lib.Dec.{leb}
use lib.ListN.{get_or, length, take}
use lib.Seq.{get_or-take, length-take-le}
use native.Mathlib.Omega.{arith}
use Rattle.grid_points.specs.Grid.{at}
use Rattle.walk_labels.proofs.Carrying.{carried_in, carried-over, none-carried, position_here}
use Rattle.walk_labels.specs.Carrying.{FoundIn, label_at_mark}
use Rattle.walk_labels.proofs.carry.Goals as goal
use Rattle.walk_labels.proofs.carry.Goals.{then-n-i, else-n-i}

pub loop-j-init : goal.loop-j-init
loop-j-init c = let a = c.args in
    λ full _. none-carried a.marks.now a.n a.carried.now a.next.now a.k a.table.now c.requires full

pub loop-j-preserved : goal.loop-j-preserved
loop-j-preserved c =
    let a = c.args in
    let l = c.loop-j in
    let long : length (take (a.k + 1) a.next.now) ≡ a.k + 1 = length-take-le (a.k + 1) a.next.now
    (omega (arith, c.requires.few_next, c.requires.next_long)) in
    let m : l.j ≤ a.k = omega arith in
    let i = c.found-i.result in
    let F : FoundIn a.marks.now a.n (at a.next.now l.j) i = rw (get_or-take (a.k + 1) a.next.now l.j 0 (omega arith)) at
    c.found-i.ensures in
    let z = position_here a.marks.now a.n a.carried.now a.next.now a.k a.table.now c.requires l.j
    c.position_at-position.result m c.position_at-position.ensures.0 in
    let e : c.label_of.result ≡ cond (leb i a.n) (at a.carried.now i) (label_at_mark a.table.now (at a.next.now l.j)) =
    c.label_of.ensures ∙ ap (λ (r : ℕ). cond (leb i a.n) (at a.carried.now i) (get_or a.table.now r 0)) z in
    λ full O. elim c.if-n-i.branch [
      | then-n-i w ↦ rw w.came_in-is (carried_in a.marks.now a.n a.carried.now a.next.now a.k a.table.now c.requires
          full O l.labels l.came_in l.j (l.invariant full O) m i F w.if-n-i.true c.label_of.result e)
      | else-n-i w ↦ rw w.came_in-is (carried-over a.marks.now a.n a.carried.now a.next.now a.k a.table.now c.requires
          full O l.labels l.came_in l.j (l.invariant full O) m i F w.if-n-i.false c.label_of.result e)
    ]

pub returns : goal.returns
returns c = λ full O.
    let a = c.args in
    let l = c.loop-j in
    let long : length (take (a.k + 1) a.next.now) ≡ a.k + 1 = length-take-le (a.k + 1) a.next.now
    (omega (arith, c.requires.few_next, c.requires.next_long)) in
    let e : l.j ≡ suc a.k = omega arith in
    let B = rw e at (l.invariant full O) in
    record { labels = B.put; came_in = B.came_in }
