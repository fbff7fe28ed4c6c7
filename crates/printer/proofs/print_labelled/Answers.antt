-- `printer::print_labelled` meets its contract: there is room for the labels of every grid. Assumes nothing.
use mathlib.Core.Path.{sym}
use Prim.Native.Nat.{ℕ}
use lib.ListN.{replicate}
use lib.Seq.{length-take-le}
use Rattle.grid.proofs.Fields.{points-few}
use Rattle.printer.proofs.Arrays.{zeros-room}
use Rattle.printer.proofs.print_labelled.Goals as goal

pub slice_bounds-labels-end : goal.slice_bounds-labels-end
slice_bounds-labels-end c = points-few c.args.reading.grid c.requires.0.made

pub slice_bounds-label_and_print-end : goal.slice_bounds-label_and_print-end
slice_bounds-label_and_print-end c = sym (length-take-le {A = ℕ} c.args.reading.grid.points (replicate 60000 0)
    (zeros-room 60000 c.args.reading.grid.points (points-few c.args.reading.grid c.requires.0.made)))

pub label_and_print-requires : goal.label_and_print-requires
label_and_print-requires c = (
  c.requires.0,
  c.requires.1,
  length-take-le {A = ℕ} c.args.reading.grid.points (replicate 60000 0)
      (zeros-room 60000 c.args.reading.grid.points (points-few c.args.reading.grid c.requires.0.made)),
)
