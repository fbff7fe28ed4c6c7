-- The sheet lies in its buffer. Assumes nothing.
use lib.Seq.{length-take-le}
use Rattle.std.proofs.Common.{sym}
use Rattle.printer.proofs.Arrays.{sheet-inside}
use Rattle.sheet_output.proofs.print_sheet.Goals as goal

pub slice_bounds-sheet-end : goal.slice_bounds-sheet-end
slice_bounds-sheet-end g c = rw (c.print-written.ensures.0, c.print-written.ensures.1) (sheet-inside _ _)

pub slice_bounds-write_all-end : goal.slice_bounds-write_all-end
slice_bounds-write_all-end g c =
    sym (length-take-le _ _ (rw (c.print-written.ensures.0, c.print-written.ensures.1) (sheet-inside _ _)))
