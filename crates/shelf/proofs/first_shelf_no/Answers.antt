-- `shelf::first_shelf_no` meets its contract. Assumes nothing.
use mathlib.Core.Bool.{true, false}
use mathlib.Core.Logic.{inl, inr}
use mathlib.Core.Path.{◌≡◌, sym, ◌∙◌}
use native.Mathlib.Omega.{arith}
use Rattle.combinatorics.proofs.Basics.{absurd_bool}
use Rattle.shelf.proofs.Calls.{no-refusal, refusal_21, refusal_22, refusal_23}
use Rattle.shelf.proofs.Sheets.{none_replaces_0}
use Rattle.shelf.specs.Shelf.{is_replaced, is_shelf}
use Rattle.shelf.proofs.first_shelf_no.Goals as goal
use Rattle.shelf.proofs.first_shelf_no.Goals.{Else-not-is_shelf, then-named-ne0, else-named-ne0}
use Rattle.shelf.proofs.first_shelf_no.Goals.{then-count-eq1000-via-then-count-eq1000}
use Rattle.shelf.proofs.first_shelf_no.Goals.{then-count-eq1000-via-else-count-eq1000+then-count-list}
use Rattle.shelf.proofs.first_shelf_no.Goals.{then-count-named-via-then-count-named}
use Rattle.shelf.proofs.first_shelf_no.Goals.{then-count-named-via-else-count-named+then-is_replaced}

-- behind question 21
passes : (c : Else-not-is_shelf)
    → is_shelf c.args.list.now c.args.count ≡ true
passes c = sym c.is_shelf.ensures ∙ c.if-not-is_shelf.false

pub returns-then-not-is_shelf : goal.returns-then-not-is_shelf
returns-then-not-is_shelf c =
    let a = c.args in
    sym
    (refusal_21 a.list.now a.count a.named (sym c.is_shelf.ensures ∙ c.if-not-is_shelf.true))

pub returns-then-count-eq1000 : goal.returns-then-count-eq1000
returns-then-count-eq1000 c =
    let a = c.args in
    let p = passes (goal.at.returns-then-count-eq1000 c).Else-not-is_shelf in
    elim c.then-count-eq1000.branch [
      | then-count-eq1000-via-then-count-eq1000 w ↦
          sym (refusal_22 a.list.now a.count a.named p (inl w.if-count-eq1000.true))
      | then-count-eq1000-via-else-count-eq1000+then-count-list w ↦
          sym (refusal_22 a.list.now a.count a.named p (inr w.if-count-list.true))
    ]

pub returns-then-count-named : goal.returns-then-count-named
returns-then-count-named c =
    let a = c.args in
    let p = passes (goal.at.returns-then-count-named c).Else-not-is_shelf in
    let refused = refusal_23 a.list.now a.count a.named p c.if-count-eq1000.false c.if-count-list.false in
    elim c.then-count-named.branch [
      | then-count-named-via-then-count-named w ↦ sym (refused (λ l u. omega arith))
      | then-count-named-via-else-count-named+then-is_replaced w ↦ sym (refused (λ l u.
          elim w.if-named-ne0.branch [
            | then-named-ne0 v ↦ absurd_bool (sym w.if-is_replaced.true ∙ v.value-is ∙ v.is_replaced.ensures ∙ u)
            | else-named-ne0 v ↦
                absurd_bool (rw v.if-named-ne0.false at (sym w.if-is_replaced.true ∙ v.value-is))
          ]))
    ]

pub returns : goal.returns
returns c =
    let a = c.args in
    let free : is_replaced a.list.now a.count a.named ≡ false = elim c.if-named-ne0.branch [
      | then-named-ne0 v ↦ cc
      | else-named-ne0 v ↦ rw v.if-named-ne0.false (none_replaces_0 a.list.now a.count)
    ] in
    sym (no-refusal a.list.now a.count a.named (passes (goal.at.returns c).Else-not-is_shelf) c.if-count-eq1000.false
    c.if-count-list.false (omega arith) free)
