-- `leveretplate_boundary` meets its contract: it is the boundary rule's own, with the answer as numbers. Assumes
-- nothing.
use mathlib.Core.Path.{sym}
use borrow.Author.Rules.{rules}
use Rattle.exports.proofs.boundary_calls.leveretplate_boundary.Goals as goal

pub returns : goal.returns
returns c =
    let found = c.boundary-found.ensures in
    rw (sym c.boundary-found.ensures.answer) record { number = c.put_count.ensures.0; count = c.put_count.ensures.1; buffer = c.boundary-found.ensures.buffer }
