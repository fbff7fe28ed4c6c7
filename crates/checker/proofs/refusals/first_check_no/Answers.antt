-- `refusals::first_check_no` meets its contract: each exit is the first question that is answered no. Assumes nothing.
use mathlib.Core.Path.{sym, ◌∙◌}
use native.Mathlib.Omega.{arith}
use Rattle.grid.proofs.Fields.{indices-few, made-indices, made-points}
use Rattle.grid.specs.Made.{shape}
use Rattle.checker.proofs.ListRefusals.{no_length, no_label, no-list, none-no}
use Rattle.checker.proofs.refusals.first_check_no.Goals as goal

pub returns-then-labels-g : goal.returns-then-labels-g
returns-then-labels-g c =
    no_length (shape c.args.g) c.args.labels.now c.args.numbers.now
    (λ e. c.if-labels-g.true (e ∙ sym (made-points c.args.g c.requires)))

pub overflow_cast-m : goal.overflow_cast-m
overflow_cast-m c = omega (arith, indices-few c.args.g c.requires)

pub returns-then-not-all_at_most : goal.returns-then-not-all_at_most
returns-then-not-all_at_most c =
    no_label (shape c.args.g) c.args.labels.now c.args.numbers.now
    (c.if-labels-g.false ∙ made-points c.args.g c.requires)
    (rw (← made-indices c.args.g c.requires) (sym c.all_at_most.ensures ∙ c.if-not-all_at_most.true))

pub returns-then-not-is_list : goal.returns-then-not-is_list
returns-then-not-is_list c =
    no-list (shape c.args.g) c.args.labels.now c.args.numbers.now
    (c.if-labels-g.false ∙ made-points c.args.g c.requires)
    (rw (← made-indices c.args.g c.requires)
    (sym c.all_at_most.ensures ∙ c.if-not-all_at_most.false))
    (sym c.is_list.ensures ∙ c.if-not-is_list.true)

pub returns : goal.returns
returns c =
    none-no (shape c.args.g) c.args.labels.now c.args.numbers.now
    (c.if-labels-g.false ∙ made-points c.args.g c.requires)
    (rw (← made-indices c.args.g c.requires)
    (sym c.all_at_most.ensures ∙ c.if-not-all_at_most.false))
    (sym c.is_list.ensures ∙ c.if-not-is_list.false)
