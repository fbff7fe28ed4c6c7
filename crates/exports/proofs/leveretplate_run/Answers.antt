-- `leveretplate_run` meets its contract: it is the run's own, with the answer as numbers. Assumes nothing.
use mathlib.Core.Path.{sym}
use borrow.Author.Rules.{rules}
use Rattle.exports.proofs.leveretplate_run.Goals as goal

pub returns : goal.returns
returns c =
    let found = c.run-found.ensures in
    rw (sym c.run-found.ensures.answer) record { number = c.put_answer.ensures.0; facts = c.put_answer.ensures.1; buffer = c.run-found.ensures.buffer }
