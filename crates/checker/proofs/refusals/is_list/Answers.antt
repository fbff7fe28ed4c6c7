-- `refusals::is_list` meets its contract: its tests are those of question 19. Assumes nothing.
use mathlib.Core.Path.{◌∙◌}
use mir.Facts.{Fits-le}
use native.Mathlib.Nat.{div-mul-le_self}
use native.Mathlib.Omega.{arith}
use Rattle.grid.proofs.Fields.{made-indices}
use Rattle.grid.specs.Made.{shape}
use Rattle.checker.proofs.ListRefusals.{list-empty, list_parted, list-long, list-points, some-index}
use Rattle.checker.proofs.ListRefusals.{fewer_blocks, most-is, most-few}
use Rattle.checker.proofs.refusals.is_list.Goals as goal
use Rattle.checker.proofs.refusals.is_list.Goals.{then-count-m-via-then-count-m}
use Rattle.checker.proofs.refusals.is_list.Goals.{then-count-m-via-else-count-m+then-m-g}

pub returns-then-length-lt1 : goal.returns-then-length-lt1
returns-then-length-lt1 c = list-empty (shape c.args.g) c.args.numbers.now c.if-length-lt1.true

pub whole_points-count-requires : goal.whole_points-count-requires
whole_points-count-requires c = some-index c.args.g c.requires

pub overflow_mul-count : goal.overflow_mul-count
overflow_mul-count c = rw c.whole_points-count.ensures (Fits-le (div-mul-le_self _ _) (omega arith))

pub returns-then-count-m : goal.returns-then-count-m
returns-then-count-m c =
    let g = c.args.g in
    let count = c.whole_points-count.ensures in
    let m = made-indices g c.requires in
    elim c.then-count-m.branch [
      | then-count-m-via-then-count-m w ↦
          list_parted (shape g) c.args.numbers.now (omega arith) (rw (← m, ← count) w.if-count-m.true)
      | then-count-m-via-else-count-m+then-m-g w ↦
          list-long (shape g) c.args.numbers.now (omega arith) (rw (← m, ← count) w.if-count-m.false)
          (rw (← most-is g c.requires, ← m, ← count) w.if-m-g.true)
    ]

pub overflow_sub-m : goal.overflow_sub-m
overflow_sub-m c = fewer_blocks c.args.g c.requires

pub overflow_add-m : goal.overflow_add-m
overflow_add-m c = omega (arith, most-is c.args.g c.requires, most-few c.args.g c.requires)

pub all_on_grid-requires : goal.all_on_grid-requires
all_on_grid-requires c = record {
  made = c.requires;
  few = omega (arith, most-is c.args.g c.requires, most-few c.args.g c.requires, c.if-m-g.false);
  whole = omega (arith, c.if-count-m.false);
}

pub returns : goal.returns
returns c =
    let count = c.whole_points-count.ensures in
    rw (count, made-indices c.args.g c.requires) at c.all_on_grid.ensures
    ∙ list-points (shape c.args.g) c.args.numbers.now (omega arith)
    (rw (← made-indices c.args.g c.requires, ← count) c.if-count-m.false)
    (rw (← most-is c.args.g c.requires, ← made-indices c.args.g c.requires, ← count) c.if-m-g.false)
