-- `look_up` meets its contract: after rules 6 and 7 nothing is read, and else the mark that is looked up is stored.
-- Assumes nothing.
use Rattle.std.proofs.Common.{refl, sym, ◌∙◌, arith}
use Rattle.marks.specs.Reading.{table_problem}
use Rattle.path_pass.proofs.Places.{looked_none, looked_some}
use Rattle.path_pass.proofs.Visits.{marked-known}
use Rattle.path_pass.proofs.look_up.Goals as goal

pub returns-in_ok-mark : goal.returns-in_ok-mark
returns-in_ok-mark c =
    let a = c.args in
    let can = c.requires.can_find c.if-s-lt6.true in
    let e = marked-known _ _ (sym c.mark_in.ensures ∙ c.in_ok-mark.was) in (
      (λ _. e.0),
      looked_some (table_problem a.g a.table.now) a.round.now a.held.now a.s c.in_ok-mark.mark c.if-s-lt6.true
          (omega (arith, can.reads.point.low, can.many)) e.1,
      refl,
    )

pub returns-else-s-lt6 : goal.returns-else-s-lt6
returns-else-s-lt6 c =
    let a = c.args in (
      (λ r. absurd (omega (arith, c.if-s-lt6.false))),
      looked_none (table_problem a.g a.table.now) a.round.now a.held.now a.s c.if-s-lt6.false,
      refl,
    )
