-- `shelf::current` meets its contract. Assumes nothing.
use mathlib.Core.Bool.{true, false}
use mathlib.Core.Path.{◌≡◌, sym, ap, ◌∙◌}
use native.Mathlib.Omega.{arith}
use Rattle.questions.specs.Questions.{first_no}
use Rattle.shelf.proofs.Calls.{asked_off, asked-on}
use Rattle.shelf.proofs.Sheets.{Shelf, shelf_of}
use Rattle.shelf.specs.Calls.{asking}
use Rattle.shelf.specs.Shelf.{is_shelf}
use Rattle.shelf.specs.declared.answers.Current.TheVariants.{Sheet}
use Rattle.shelf.proofs.current.Goals as goal
use Rattle.shelf.proofs.current.Goals.{Else-not-is_shelf, then-sheet-eq0-via-then-sheet-eq0}
use Rattle.shelf.proofs.current.Goals.{then-sheet-eq0-via-else-sheet-eq0+then-count-sheet}

-- behind question 21
passes : (c : Else-not-is_shelf)
    → is_shelf c.args.list.now c.args.count ≡ true
passes c = sym c.is_shelf.ensures ∙ c.if-not-is_shelf.false

shelf : (c : Else-not-is_shelf) → Shelf c.args.list.now c.args.count
shelf c = shelf_of _ (passes c)

pub returns-then-not-is_shelf : goal.returns-then-not-is_shelf
unfolding asking first_no
returns-then-not-is_shelf c =
    let a = c.args in
    let e : is_shelf a.list.now a.count ≡ false =
    sym c.is_shelf.ensures ∙ c.if-not-is_shelf.true in
    rw e

pub returns-then-sheet-eq0 : goal.returns-then-sheet-eq0
returns-then-sheet-eq0 c =
    let a = c.args in
    let shelf = shelf (goal.at.returns-then-sheet-eq0 c).Else-not-is_shelf in
    elim c.then-sheet-eq0.branch [
      | then-sheet-eq0-via-then-sheet-eq0 w ↦
          sym (asked_off a.list.now a.count a.sheet shelf (λ l h. omega arith))
      | then-sheet-eq0-via-else-sheet-eq0+then-count-sheet w ↦
          sym (asked_off a.list.now a.count a.sheet shelf (λ l h. omega arith))
    ]

pub returns : goal.returns
returns c =
    let a = c.args in
    let asked = asked-on a.list.now a.count a.sheet (shelf (goal.at.returns c).Else-not-is_shelf) (omega (arith, c.if-sheet-eq0.false))
    (omega arith) in
    ap Sheet c.last_reached.ensures ∙ sym asked
