-- `leveretplate_check` meets its contract: it is the checker's own, with the answer as a number. Assumes nothing.
use mathlib.Core.Path.{ap, ◌∙◌}
use Rattle.exports.specs.Check.{check_number}
use borrow.Author.Rules.{rules}
use Rattle.exports.proofs.check_calls.leveretplate_check.Goals as goal

pub returns : goal.returns
returns c = c.check_number.ensures ∙ ap check_number c.check.ensures
