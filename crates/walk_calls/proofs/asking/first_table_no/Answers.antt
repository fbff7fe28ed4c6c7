-- `asking::first_table_no` meets its contract: each exit is the first question that is answered no. Assumes nothing.
use mathlib.Core.Path.{sym, ◌∙◌}
use Rattle.grid.proofs.Fields.{indices-few, made-indices, made-points}
use Rattle.walk_calls.proofs.Later.{no_label, no_length, no_question, no_start}
use native.Mathlib.Omega.{arith}
use Rattle.walk_calls.proofs.asking.first_table_no.Goals as goal

pub returns-then-not-is_grid_point : goal.returns-then-not-is_grid_point
returns-then-not-is_grid_point c = let a = c.args in
    no_start a.g a.start.now a.labels.now (sym c.is_grid_point.ensures ∙ c.if-not-is_grid_point.true)

pub returns-then-labels-g : goal.returns-then-labels-g
returns-then-labels-g c = let a = c.args in
    no_length a.g a.start.now a.labels.now (sym c.is_grid_point.ensures ∙ c.if-not-is_grid_point.false)
    (λ q. c.if-labels-g.true (q ∙ sym (made-points a.g c.requires)))

pub overflow_cast-g : goal.overflow_cast-g
overflow_cast-g c = omega (arith, indices-few c.args.g c.requires)

pub returns-then-not-all_at_most : goal.returns-then-not-all_at_most
returns-then-not-all_at_most c = let a = c.args in
    no_label a.g a.start.now a.labels.now (sym c.is_grid_point.ensures ∙ c.if-not-is_grid_point.false)
    (c.if-labels-g.false ∙ made-points a.g c.requires)
    (rw (← (made-indices a.g c.requires)) (sym c.all_at_most.ensures ∙ c.if-not-all_at_most.true))

pub returns : goal.returns
returns c = let a = c.args in
    no_question a.g a.start.now a.labels.now (sym c.is_grid_point.ensures ∙ c.if-not-is_grid_point.false)
    (c.if-labels-g.false ∙ made-points a.g c.requires)
    (rw (← (made-indices a.g c.requires)) (sym c.all_at_most.ensures ∙ c.if-not-all_at_most.false))
