-- `printer::print_answer` meets its contract, case by case. Assumes nothing.
use mathlib.Core.Path.{sym}
use lib.Seq.{length-take-le}
use Rattle.printer.proofs.Arrays.{same-sheet, as_prints, divisions-room, printable, end-printed}
use Rattle.printer.specs.Run.{printed}
use Rattle.printer.proofs.print_answer.Goals as goal

pub slice_bounds-divisions-end : goal.slice_bounds-divisions-end
slice_bounds-divisions-end c = divisions-room
    c.args.grid
    c.requires.0 _
    c.divisions_of-divisions.ensures

pub slice_bounds-ended-end : goal.slice_bounds-ended-end
slice_bounds-ended-end c =
    sym (length-take-le _ _ (divisions-room c.args.grid c.requires.0 _ c.divisions_of-divisions.ensures))

pub ended-requires : goal.ended-requires
ended-requires c =
    printable c.args.grid c.requires.0 _ c.divisions_of-divisions.ensures _ _
    (c.requires.1.end _ _ _ _ _ c.in-End.is)

pub returns-in-Refused : goal.returns-in-Refused
unfolding printed
returns-in-Refused c = rw c.in-Refused.is (as_prints c.refused.ensures)

pub returns-in-Spent : goal.returns-in-Spent
unfolding printed
returns-in-Spent c = rw c.in-Spent.is (as_prints c.spent.ensures)

pub returns-in-Unknown : goal.returns-in-Unknown
unfolding printed
returns-in-Unknown c = rw c.in-Unknown.is (as_prints c.unknown.ensures)

pub returns-in-End : goal.returns-in-End
unfolding printed
returns-in-End c =
    let e = end-printed c.args.grid c.requires.0 _ c.divisions_of-divisions.ensures
    c.in-End.vertices c.args.buffer.now _ _ _ _ _ c.bound.ensures in
    rw c.in-End.is (same-sheet c.args.sheet.now e (as_prints c.ended.ensures))
