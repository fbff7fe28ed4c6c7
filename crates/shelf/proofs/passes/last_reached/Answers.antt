-- `shelf::passes::last_reached` meets its contract. The invariant: what is reached is the current one among the sheets
-- passed. Assumes nothing.
use mathlib.Core.Path.{sym, ◌∙◌}
use native.Mathlib.Omega.{arith}
use Rattle.shelf.proofs.Currents.{last-is-current}
use Rattle.shelf.proofs.Entries.{goes_on, stays}
use Rattle.shelf.proofs.Sheets.{shelf_before, shelf_of}
use Rattle.shelf.proofs.passes.last_reached.Goals as goal
use Rattle.shelf.proofs.passes.last_reached.Goals.{then-from-reached, else-from-reached}

pub loop-k-init : goal.loop-k-init
loop-k-init c =
    let a = c.args in
    let p = c.requires in
    let f = shelf_of a.list.now p.passes in (
      sym (last-is-current a.list.now (shelf_before a.list.now f a.sheet p.filed)),
      p,
      omega arith,
      p.filed,
      f.room,
    )

pub loop-k-preserved : goal.loop-k-preserved
loop-k-preserved c =
    let a = c.args in
    let l = c.loop-k in
    let f = shelf_of a.list.now l.invariant.1.passes in
    let e = c.from.ensures in (
      elim c.if-from-reached.branch [
        | then-from-reached w ↦
            w.reached-is
            ∙ sym (goes_on a.list.now f l.k a.sheet l.invariant.1.numbered (omega arith) (omega arith)
            (sym e ∙ (w.if-from-reached.true ∙ l.invariant.0)))
        | else-from-reached w ↦
            w.reached-is
            ∙ (l.invariant.0
            ∙ sym (stays a.list.now f l.k a.sheet l.invariant.1.numbered (omega arith) (omega arith)
            (λ n. w.if-from-reached.false (e ∙ (n ∙ sym l.invariant.0)))))
      ],
      l.invariant.1,
      omega arith,
      omega arith,
      l.invariant.4,
    )
