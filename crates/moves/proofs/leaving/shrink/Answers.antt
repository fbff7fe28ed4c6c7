-- `shrink` meets its contract, by rule 6 and by rule 7. Assumes nothing.
use Rattle.std.proofs.Common.{◌≡◌, ◌∙◌, cond}
use Rattle.rules.specs.Mask.{with_index}
use Rattle.moves.proofs.Cases.{shrinks}
use Rattle.moves.proofs.leaving.shrink.Goals as goal
use Rattle.moves.proofs.leaving.shrink.Goals.{then-joins, else-joins, then-joins-2, else-joins-2}

pub invariant_of-held : goal.invariant_of-held
invariant_of-held c = record { first_long = c.args.held.now.first_long; order_long = c.remove.ensures.1 }

pub returns : goal.returns
returns c =
    let a = c.args in
    let h = c.index_at-h in
    let rule : c.if-joins.rule ≡ cond a.joins 6 7 = elim c.if-joins.branch [
      | then-joins w ↦ rw w.if-joins.true w.rule-is
      | else-joins w ↦ rw w.if-joins.false w.rule-is
    ] in
    let u : c.if-joins-2.u ≡ cond a.joins (with_index a.s.u h.result) a.s.u = elim c.if-joins-2.branch [
      | then-joins-2 w ↦ rw w.if-joins-2.true (w.u-is ∙ w.add-u.ensures)
      | else-joins-2 w ↦ rw w.if-joins-2.false w.u-is
    ] in
    λ round. shrinks round a.held.now c.remove.new.a c.remove-2.new.a a.s a.i a.e c.requires.1.entry h.result a.joins
    h.ensures.is c.remove.ensures.0 c.remove-2.ensures.0 c.find-active.ensures c.without-t.ensures u rule
