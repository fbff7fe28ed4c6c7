-- `leveretplate_current` meets its contract: it is the asking's own, with the answer as numbers. Assumes nothing.
use mathlib.Core.Path.{refl, sym, ◌∙◌}
use borrow.Author.Rules.{rules}
use Rattle.exports.proofs.shelf_calls.leveretplate_current.Goals as goal

pub returns-in-Refused : goal.returns-in-Refused
returns-in-Refused c = rw (sym c.current.ensures ∙ c.in-Refused.is) record { number = refl; sheet = refl }

pub returns-in-Sheet : goal.returns-in-Sheet
returns-in-Sheet c = rw (sym c.current.ensures ∙ c.in-Sheet.is) record { number = refl; sheet = refl }
