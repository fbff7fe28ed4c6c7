-- `shelf::file` meets its contract. Assumes nothing.
use mathlib.Core.Path.{sym, ◌∙◌}
use native.Mathlib.Omega.{arith}
use Rattle.shelf.proofs.Calls.{MayFile, files, may_file, refuses}
use Rattle.shelf.proofs.file.Goals as goal
use Rattle.shelf.proofs.file.Goals.{Else-number-ne0}

pub returns-then-number-ne0 : goal.returns-then-number-ne0
returns-then-number-ne0 c =
    let a = c.args in
    let r =
    refuses a.list.now a.count a.named c.first_shelf_no-number.result (omega (arith, c.if-number-ne0.true))
    (sym c.first_shelf_no-number.ensures) in
    record { answer = r.0; list = r.1 }

-- behind the questions
may : (c : Else-number-ne0) → let a = c.args in MayFile a.list.now a.count a.named
may c = may_file _ _ _ (sym c.first_shelf_no-number.ensures ∙ c.if-number-ne0.false)

pub overflow_cast-list : goal.overflow_cast-list
overflow_cast-list c = omega (arith, (may (goal.at.overflow_cast-list c).Else-number-ne0).below, (may (goal.at.overflow_cast-list c).Else-number-ne0).on_shelf)

pub offset_bounds-list-count : goal.offset_bounds-list-count
offset_bounds-list-count c = omega (arith, (may (goal.at.offset_bounds-list-count c).Else-number-ne0).place)

pub bounds-list-count : goal.bounds-list-count
bounds-list-count c = omega (arith, (may (goal.at.bounds-list-count c).Else-number-ne0).place)

pub overflow_add-result : goal.overflow_add-result
overflow_add-result c = omega (arith, (may (goal.at.overflow_add-result c).Else-number-ne0).place)

pub returns : goal.returns
returns c =
    let a = c.args in
    let r = files a.list.now a.count a.named (sym c.first_shelf_no-number.ensures ∙ c.if-number-ne0.false) in
    record { answer = r.0; list = r.1 }
