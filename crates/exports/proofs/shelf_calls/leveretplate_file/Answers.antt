-- `leveretplate_file` meets its contract: it is the filing's own, with the answer as numbers. Assumes nothing.
use mathlib.Core.Path.{refl, sym, ◌∙◌}
use borrow.Author.Rules.{rules}
use Rattle.exports.proofs.shelf_calls.leveretplate_file.Goals as goal

pub returns-in-Refused : goal.returns-in-Refused
returns-in-Refused c =
    let l = c.file in
    rw (sym l.ensures.answer ∙ c.in-Refused.is) record { number = refl; count = refl; list = l.ensures.list }

pub returns-in-Filed : goal.returns-in-Filed
returns-in-Filed c =
    let l = c.file in
    rw (sym l.ensures.answer ∙ c.in-Filed.is) record { number = refl; count = refl; list = l.ensures.list }
