-- `marks::mark_in` meets its contract: the label stands in the table at the position. Assumes nothing.
use Rattle.std.proofs.Common.{◌≡◌, sym, ◌∙◌, ◌<◌, get_or, arith}
use Rattle.grid.proofs.Fields.{made-accepted}
use Rattle.label_table.proofs.Labels.{byte_some, byte_told}
use Rattle.positions.proofs.Positions.{position-below}
use Rattle.marks.proofs.Readings.{in_table, read-gap, read-mark}
use Rattle.marks.proofs.mark_in.Goals as goal
use Rattle.marks.proofs.mark_in.Goals.{After-from, After-position_in-position}

pub read_at-requires : goal.read_at-requires
read_at-requires c =
    let a = c.args in
    rw c.position_in-position.ensures
    (in_table a.g a.binomials.now a.table.now c.requires.0 _ c.requires.1.reads.on_grid)

-- the position is below the number of grid points
small : (c : After-position_in-position) → c.position_in-position.result < 60001
small c =
    let a = made-accepted c.args.g c.requires.0.made in
    rw c.position_in-position.ensures
    (omega (arith, position-below _ _ a.same_number c.requires.1.reads.on_grid, a.few_points))

pub overflow_cast-result : goal.overflow_cast-result
overflow_cast-result c = omega (arith, small (goal.at.overflow_cast-result c).After-position_in-position)

pub overflow_mul-result : goal.overflow_mul-result
overflow_mul-result c = omega (arith, small (goal.at.overflow_mul-result c).After-position_in-position)

told : (c : After-from) → c.from.result ≡ get_or c.args.table.now c.position_in-position.result 0
told c = c.from.ensures ∙ byte_told _ _ (sym c.read_at.ensures ∙ c.in-Some.is)

pub overflow_add-result : goal.overflow_add-result
overflow_add-result c = omega (
  arith,
  small (goal.at.overflow_add-result c).After-position_in-position,
  told c,
  c.type_inv.table c.position_in-position.result,
)

pub returns-in-Some : goal.returns-in-Some
returns-in-Some c =
    let a = c.args in
    let e = c.position_in-position.ensures in
    let read = sym c.read_at.ensures ∙ c.in-Some.is in
    rw (told (goal.at.returns-in-Some c).After-from, e) (read-mark a.g a.binomials.now a.table.now c.requires.0 _
    (λ z. byte_some (get_or a.table.now c.position_in-position.result 0) _ read (rw e z)))

pub returns-in-None : goal.returns-in-None
returns-in-None c =
    let a = c.args in
    let e = c.position_in-position.ensures in
    let none : get_or a.table.now c.position_in-position.result 0 ≡ 0 =
    sym (byte_told _ _ (sym c.read_at.ensures ∙ c.in-None.is)) in
    rw e (read-gap a.g a.binomials.now a.table.now c.requires.0 _ (rw e at none))
