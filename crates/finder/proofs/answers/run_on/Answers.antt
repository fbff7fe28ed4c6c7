-- `finder::answers::run_on` meets its contract: the questions in their order, and then the answer of the path.
-- Assumes nothing.
use mathlib.Core.Path.{sym, ◌∙◌}
use lib.ListN.{length}
use Rattle.marks.specs.Reading.{problem_from}
use Rattle.finder.proofs.Refusals.{accepted-with_room, answered, by_later, refused}
use Rattle.finder.proofs.answers.run_on.Goals as goal

pub returns-then-number-ne0 : goal.returns-then-number-ne0
returns-then-number-ne0 c =
    let a = c.args in
    let old = a.answer.now in
    let p = problem_from a.g a.start.now a.labels.now in
    let r = refused p a.budget old c.first_run_no-number.result c.if-number-ne0.true
    (by_later p (length old) c.requires.accepted ∙ sym c.first_run_no-number.ensures) in
    record { answer = r.0; buffer = r.1 }

pub announced-requires : goal.announced-requires
announced-requires c =
    let a = c.args in
    let p = problem_from a.g a.start.now a.labels.now in
    let w = accepted-with_room p (length a.answer.now) c.requires.accepted
    (sym c.first_run_no-number.ensures
    ∙ c.if-number-ne0.false) in
    record {
      readable = record { made = c.requires; filled = c.binomials.ensures; whole = w.0.table_length };
      accepted = w.0;
      room = w.1;
    }

pub returns : goal.returns
returns c =
    let a = c.args in
    let old = a.answer.now in
    let p = problem_from a.g a.start.now a.labels.now in
    let q = c.announced.ensures in
    let w = answered p a.budget old
    (by_later p (length old) c.requires.accepted
    ∙ sym c.first_run_no-number.ensures
    ∙ c.if-number-ne0.false) in
    record { answer = c.announced.ensures.value ∙ w.0; buffer = c.announced.ensures.answer_after ∙ w.1 }
