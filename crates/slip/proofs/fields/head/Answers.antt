-- `slip::fields::head` meets its contract: the bytes are there, and the map passes. Assumes nothing.
use native.Mathlib.Omega.{arith}
use mathlib.Core.Path.{◌∙◌}
use borrow.Author.Tests.{le-leb, lt-leb}
use lib.ListN.{length}
use Rattle.slip.proofs.Readings.{head_tested}
use Rattle.slip.specs.Reading.{head_of}
use Rattle.slip_fields.specs.Slip.{head_length}
use Rattle.slip.proofs.fields.head.Goals as goal
use Rattle.slip.proofs.fields.head.Goals.{then-end-slip, else-end-slip}

pub returns-then-slip-lt2 : goal.returns-then-slip-lt2
unfolding head_of
returns-then-slip-lt2 c =
    let slip = c.args.slip.now in
    rw (lt-leb (head_length slip) (length slip) (omega arith))

pub returns : goal.returns
returns c =
    let slip = c.args.slip.now in
    c.then_some.ensures ∙ elim c.if-end-slip.branch [
      | then-end-slip w ↦ head_tested slip _ _ (w.then_some-is ∙ w.is_map.ensures
          ∙ rw (le-leb (head_length slip) (length slip) (omega arith))) (omega arith)
      | else-end-slip w ↦ head_tested slip _ _ (w.then_some-is
          ∙ rw (c.from.ensures, lt-leb (head_length slip) (length slip) (omega arith))) (omega arith)
    ]
