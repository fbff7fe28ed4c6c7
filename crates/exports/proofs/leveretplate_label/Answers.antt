-- `leveretplate_label` meets its contract: it is the labelling's own, with the answer as numbers. Assumes nothing.
use mathlib.Core.Path.{sym}
use borrow.Author.Rules.{rules}
use Rattle.exports.proofs.leveretplate_label.Goals as goal

pub returns : goal.returns
returns c =
    let found = c.label-found.ensures in
    rw (sym c.label-found.ensures.value) record { number = c.put_count.ensures.0; count = c.put_count.ensures.1; buffer = c.label-found.ensures.buffer_after }
