-- `shelf::passes::is_replaced` meets its contract: the entries of the sheets filed are searched. Assumes nothing.
use mathlib.Core.Path.{◌≡◌, sym}
use borrow.Author.Rules.{rules}
use borrow.Author.Tests.{tests}
use lib.ListN.{take}
use lib.Seq.{length-take-le}
use Rattle.std.proofs.lemmas.Iterator.{YieldsList-from_slice, cases_from_any}
use Rattle.shelf.proofs.Entries.{any_names}
use Rattle.shelf.proofs.Sheets.{shelf_of}
use Rattle.shelf.proofs.passes.is_replaced.Goals as goal

pub slice_bounds-iter-end : goal.slice_bounds-iter-end
slice_bounds-iter-end c = sym (length-take-le _ _ (shelf_of c.args.list.now c.requires.passes).room)

pub returns : goal.returns
returns c =
    let a = c.args in
    any_names a.list.now a.count a.sheet c.any.result (shelf_of a.list.now c.requires.passes).room c.requires.numbered
    (cases_from_any _ _ _ (λ x. x ≡ a.sheet) (λ x. x ≡ a.sheet → ⊥) c.any.ensures.ran
    (YieldsList-from_slice (take a.count a.list.now) cc)
    (λ x q k. search (rules, tests)) (λ x q k. search (rules, tests)))
