-- `showing::preview` meets its contract. Assumes nothing.
use mathlib.Core.Logic.{⊎_elim}
use mathlib.Core.Path.{sym, ap, ◌∙◌}
use Rattle.walk_preview.proofs.Calls.{moves_of, shown-ended, shown-moved, shown-refused, shown_with}
use Rattle.walk_ways.specs.declared.WalkAnswer.{WalkAnswer}
use Rattle.walk_preview.proofs.showing.preview.Goals as goal

pub change_in-change-requires : goal.change_in-change-requires
change_in-change-requires c = let a = c.args in (
  a.labels.now,
  moves_of a.w a.labels.now c.moved-answer.result
      c.moved-answer.ensures c.in-Moved.rule
      c.in-Moved.is,
)

pub returns-in-Moved : goal.returns-in-Moved
returns-in-Moved c = let m = c.moved-answer in
    let a = c.args in
    let rule = c.in-Moved.rule in let e = c.in-Moved.is in
    ap (λ (x : WalkAnswer). shown_with x m.result.simplex c.change_in-change.result) (sym e)
    ∙ shown-moved a.w a.labels.now m.result m.ensures rule e c.change_in-change.result
    (c.change_in-change.ensures a.labels.now (moves_of a.w a.labels.now m.result m.ensures rule e))

pub returns-in-Refused : goal.returns-in-Refused
returns-in-Refused c =
    let m = c.moved-answer in
    let a = c.args in
    let change = c.none-change in
    ⊎_elim (λ r. shown-refused a.w a.labels.now m.result m.ensures r.0 r.1 change.result change.ensures)
    (λ r. shown-ended a.w a.labels.now m.result m.ensures r.0 r.1 r.2 r.3 change.result change.ensures) c.in-Refused.is
