-- `nearest::first_nearest_no` meets its contract: each exit is the first question that is answered no. Assumes nothing.
use mathlib.Core.Path.{sym, ◌∙◌}
use native.Mathlib.Omega.{arith}
use Rattle.grid.proofs.Fields.{made-points}
use Rattle.marks.specs.Reading.{problem_from}
use Rattle.nearest.proofs.Refusals.{no-later, no-list, no-point, none-no}
use Rattle.nearest.proofs.first_nearest_no.Goals as goal

pub returns-then-not-is_grid_point : goal.returns-then-not-is_grid_point
returns-then-not-is_grid_point c =
    let a = c.args in
    let p = problem_from a.g a.start.now a.labels.now in
    no-point p a.w.now a.room a.entries (sym c.is_grid_point.ensures ∙ c.if-not-is_grid_point.true)

pub returns-then-number-ne0 : goal.returns-then-number-ne0
returns-then-number-ne0 c =
    let a = c.args in
    let p = problem_from a.g a.start.now a.labels.now in
    no-later p a.w.now a.room a.entries
    (sym c.is_grid_point.ensures ∙ c.if-not-is_grid_point.false)
    c.first_run_no-number.result c.if-number-ne0.true c.first_run_no-number.ensures

pub returns-then-entries-g : goal.returns-then-entries-g
returns-then-entries-g c =
    let a = c.args in
    let p = problem_from a.g a.start.now a.labels.now in
    no-list p a.w.now a.room a.entries
    (sym c.is_grid_point.ensures
    ∙ c.if-not-is_grid_point.false)
    (sym c.first_run_no-number.ensures ∙ c.if-number-ne0.false)
    (omega (arith, c.if-entries-g.true, made-points a.g c.requires))

pub returns : goal.returns
returns c =
    let a = c.args in
    let p = problem_from a.g a.start.now a.labels.now in
    none-no p a.w.now a.room a.entries
    (sym c.is_grid_point.ensures
    ∙ c.if-not-is_grid_point.false)
    (sym c.first_run_no-number.ensures ∙ c.if-number-ne0.false)
    (omega (arith, c.if-entries-g.false, made-points a.g c.requires))
