-- `finder::answers::first_run_no` meets its contract: each exit is the first question that is answered no. Assumes
-- nothing.
use mathlib.Core.Path.{sym, ◌∙◌}
use native.Mathlib.Omega.{arith}
use Rattle.grid.proofs.Fields.{indices-few, made-indices, made-points}
use Rattle.marks.specs.Reading.{problem_from}
use Rattle.finder.proofs.Refusals.{fewer_blocks, no_label, no_length, no_room, no_start, none-no, room-is}
use Rattle.finder.proofs.Refusals.{room_small}
use Rattle.finder.proofs.answers.first_run_no.Goals as goal

pub returns-then-not-is_grid_point : goal.returns-then-not-is_grid_point
returns-then-not-is_grid_point c =
    let a = c.args in
    no_start (problem_from a.g a.start.now a.labels.now) a.room
    (sym c.is_grid_point.ensures ∙ c.if-not-is_grid_point.true)

pub returns-then-labels-g : goal.returns-then-labels-g
returns-then-labels-g c =
    let a = c.args in
    no_length (problem_from a.g a.start.now a.labels.now) a.room
    (sym c.is_grid_point.ensures ∙ c.if-not-is_grid_point.false)
    (λ q. c.if-labels-g.true (q ∙ sym (made-points a.g c.requires)))

pub overflow_cast-m : goal.overflow_cast-m
overflow_cast-m c =
    omega (arith, indices-few c.args.g c.requires)

pub returns-then-not-all_at_most : goal.returns-then-not-all_at_most
returns-then-not-all_at_most c =
    let a = c.args in
    no_label (problem_from a.g a.start.now a.labels.now) a.room
    (sym c.is_grid_point.ensures
    ∙ c.if-not-is_grid_point.false)
    (c.if-labels-g.false ∙ made-points a.g c.requires)
    (rw (← (made-indices a.g c.requires)) (sym c.all_at_most.ensures ∙ c.if-not-all_at_most.true))

pub overflow_sub-m : goal.overflow_sub-m
overflow_sub-m c =
    fewer_blocks c.args.g c.requires

pub overflow_add-m : goal.overflow_add-m
overflow_add-m c =
    omega (arith, indices-few c.args.g c.requires)

pub overflow_mul-m : goal.overflow_mul-m
overflow_mul-m c =
    omega (arith, room_small c.args.g c.requires)

pub returns-then-room-m : goal.returns-then-room-m
returns-then-room-m c =
    let a = c.args in
    no_room (problem_from a.g a.start.now a.labels.now) a.room
    (sym c.is_grid_point.ensures
    ∙ c.if-not-is_grid_point.false)
    (c.if-labels-g.false ∙ made-points a.g c.requires)
    (rw (← (made-indices a.g c.requires))
    (sym c.all_at_most.ensures ∙ c.if-not-all_at_most.false))
    (rw (← (room-is a.g c.requires)) c.if-room-m.true)

pub returns : goal.returns
returns c =
    let a = c.args in
    none-no (problem_from a.g a.start.now a.labels.now) a.room
    (sym c.is_grid_point.ensures
    ∙ c.if-not-is_grid_point.false)
    (c.if-labels-g.false ∙ made-points a.g c.requires)
    (rw (← (made-indices a.g c.requires))
    (sym c.all_at_most.ensures ∙ c.if-not-all_at_most.false))
    (rw (← (room-is a.g c.requires)) c.if-room-m.false)
