-- `nearest::run` meets its contract: questions 1 to 4, and then the others on the grid that they let through.
-- Assumes nothing.
use mathlib.Core.Path.{sym, ap, ◌∙◌}
use lib.ListN.{length}
use Rattle.grid.proofs.Fields.{made_code, made-is}
use Rattle.grid_points.specs.Grid.{Grid}
use Rattle.place.specs.Problem.{Problem, problem_of}
use Rattle.finder.proofs.Refusals.{same-problem}
use Rattle.nearest.proofs.Refusals.{by_grid, refused}
use Rattle.nearest.specs.Report.{near_answer_buffer, list_buffer, report_of}
use Rattle.nearest.proofs.run.Goals as goal

pub returns-then-code-ne0 : goal.returns-then-code-ne0
returns-then-code-ne0 c =
    let a = c.args in
    let G : Grid = record { sizes = a.sizes.now; divisions = a.divisions.now } in
    let r = c.new-made.result in
    let p = problem_of a.sizes.now a.divisions.now a.start.now a.labels.now in
    let q = made_code G r c.new-made.ensures in
    let w = refused p a.w.now a.given a.budget a.answer.now a.list.now r.code c.if-code-ne0.true
    (by_grid p a.w.now (length a.answer.now) (length a.list.now) (λ f. c.if-code-ne0.true (q ∙ f)) ∙ sym q) in
    record { report = w.0; answer = w.1; list = w.2 }

pub run_on-requires : goal.run_on-requires
run_on-requires c =
    let a = c.args in
    let G : Grid = record { sizes = a.sizes.now; divisions = a.divisions.now } in
    let r = c.new-made.result in
    made-is G r c.new-made.ensures c.if-code-ne0.false

pub returns : goal.returns
returns c =
    let a = c.args in
    let G : Grid = record { sizes = a.sizes.now; divisions = a.divisions.now } in
    let r = c.new-made.result in
    let same = same-problem G r
    c.new-made.ensures
    c.if-code-ne0.false a.start.now a.labels.now in
    let w = c.run_on.ensures in record {
      report = c.run_on.ensures.report
          ∙ ap
          (λ (p : Problem).
          report_of p a.w.now a.given (length a.answer.now) (length a.list.now) a.budget)
          same;
      answer = c.run_on.ensures.answer
          ∙ ap
          (λ (p : Problem). near_answer_buffer p a.w.now (length a.list.now) a.budget a.answer.now)
          same;
      list = c.run_on.ensures.list
          ∙ ap
          (λ (p : Problem). list_buffer p a.w.now a.given (length a.answer.now) a.budget a.list.now)
          same;
    }
