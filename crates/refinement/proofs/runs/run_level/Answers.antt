-- `refinement::runs::run_level` meets its contract. Assumes nothing.
use mathlib.Core.Path.{refl, sym, ap, ◌∙◌}
use Rattle.refinement.proofs.LevelRuns.{can_announce, not_end, told, written}
use Rattle.refinement.specs.Answer.{level_of}
use Rattle.refinement.proofs.runs.run_level.Goals as goal

pub label_on-requires : goal.label_on-requires
label_on-requires c =
    (c.requires.made, c.requires.table, c.requires.whole)

pub binomials-requires : goal.binomials-requires
binomials-requires c = (c.requires.made, refl)

pub bound-requires : goal.bound-requires
bound-requires c =
    c.requires.made

pub announced-requires : goal.announced-requires
announced-requires c =
    let a = c.args in
    can_announce a.grid a.start.now a.losses.now _ _ c.requires _
    c.label_on.ensures _ _
    c.binomials.ensures refl

pub returns-in-End : goal.returns-in-End
returns-in-End c =
    let a = c.args in
    let w = c.announced in
    let b = c.bound in record {
      level = ap level_of (sym c.in-End.is) ∙ told a.grid a.start.now a.losses.now _ _ c.requires _
          c.label_on.ensures b.result b.ensures w.result w.ensures.value;
      labels = c.label_on.ensures;
      answer = written a.grid a.start.now a.losses.now _ _ c.requires _
          c.label_on.ensures b.result b.ensures a.answer.now _
          w.ensures.answer_after;
    }

pub returns-in_default : goal.returns-in_default
returns-in_default c =
    let a = c.args in
    let w = c.announced in
    let b = c.bound in record {
      level = c.no_level.ensures
          ∙ sym (not_end w.result c.in_default.not-End)
          ∙ told a.grid a.start.now a.losses.now _ _ c.requires _
          c.label_on.ensures b.result b.ensures w.result w.ensures.value;
      labels = c.label_on.ensures;
      answer = written a.grid a.start.now a.losses.now _ _ c.requires _
          c.label_on.ensures b.result b.ensures a.answer.now _
          w.ensures.answer_after;
    }
