-- `spares::spare` meets its contract. Assumes nothing.
use mathlib.Core.Path.{◌≡◌, sym, ap, ◌∙◌}
use Prim.Native.Nat.{◌+◌, ◌≤◌}
use lib.ListN.{length, take}
use lib.Seq.{get_or-take, length-take-le}
use Rattle.rules.specs.Moves.{mark_label}
use Rattle.walk_next.specs.Spares.{label_at}
use Rattle.walk_next.proofs.Labels.{spares_none, spares_new, spares_old}
use native.Mathlib.Omega.{arith}
use Rattle.walk_next.proofs.spares.spare.Goals as goal
use Rattle.walk_next.proofs.spares.spare.Goals.{then-is_new, else-is_new}

pub loop-k-init : goal.loop-k-init
loop-k-init c = spares_none c.args.marks.now c.args.t

pub loop-k-preserved : goal.loop-k-preserved
loop-k-preserved c =
    let a = c.args in
    let l = c.loop-k in
    let long : length (take (a.n + 1) a.marks.now) ≡ a.n + 1 = length-take-le (a.n + 1) a.marks.now (omega arith) in
    let is : c.label_in-label.result ≡ label_at a.marks.now l.k =
    c.label_in-label.ensures ∙ ap mark_label (get_or-take (a.n + 1) a.marks.now l.k 0 (omega arith)) in
    let low : c.label_in-label.result ≤ 16 = omega (arith, is, c.requires.2 l.k (omega arith)) in
    elim c.if-is_new.branch [
      | then-is_new w ↦ rw (w.seen-is, w.point-is, w.add-seen.ensures)
          (spares_new a.marks.now l.k a.t l.seen l.point c.label_in-label.result l.invariant is low
          (sym c.is_new.ensures ∙ w.if-is_new.true))
      | else-is_new w ↦ rw (w.seen-is, w.point-is)
          (spares_old a.marks.now l.k a.t l.seen l.point c.label_in-label.result l.invariant is low
          (sym c.is_new.ensures ∙ w.if-is_new.false))
    ]
