-- `shelf::passes::is_shelf` meets its contract. The invariant: the sheets passed name rightly, and what they name is
-- marked. Assumes nothing.
use mathlib.Core.Logic.{inl, inr}
use mathlib.Core.Bool.{true, false}
use mathlib.Core.Path.{◌≡◌, sym, ◌∙◌}
use borrow.Author.Tests.{le-leb, lt-leb}
use lib.ListN.{get_or, length}
use native.Mathlib.Omega.{arith}
use Rattle.combinatorics.proofs.Basics.{absurd_bool}
use Rattle.shelf.proofs.Entries.{checked-all, checked_more, checked-none, not_earlier, not_once}
use Rattle.shelf.specs.Shelf.{is_shelf}
use Rattle.shelf.proofs.passes.is_shelf.Goals as goal
use Rattle.shelf.proofs.passes.is_shelf.Goals.{then-named-ne0, else-named-ne0}
use Rattle.shelf.proofs.passes.is_shelf.Goals.{then-count-gt1000-via-then-count-gt1000}
use Rattle.shelf.proofs.passes.is_shelf.Goals.{then-count-gt1000-via-else-count-gt1000+then-list-count}
use Rattle.shelf.proofs.passes.is_shelf.Goals.{then-k-named-via-then-k-named}
use Rattle.shelf.proofs.passes.is_shelf.Goals.{then-k-named-via-else-k-named+then-marks-named}

pub returns-then-count-gt1000 : goal.returns-then-count-gt1000
unfolding is_shelf
returns-then-count-gt1000 c =
    let a = c.args in
    elim c.then-count-gt1000.branch [
      | then-count-gt1000-via-then-count-gt1000 w ↦ rw (lt-leb a.count 1000 w.if-count-gt1000.true)
      | then-count-gt1000-via-else-count-gt1000+then-list-count w ↦
          rw (le-leb a.count 1000 (omega arith), lt-leb a.count (length a.list.now) w.if-list-count.true)
    ]

pub loop-k-init : goal.loop-k-init
loop-k-init c = (checked-none _, omega arith, omega arith, omega arith)

pub returns-then-k-named : goal.returns-then-k-named
returns-then-k-named c =
    let list = c.args.list.now in
    let count = c.args.count in
    let l = c.loop-k in
    let e : c.from-named.result ≡ get_or list l.k 0 = c.from-named.ensures in
    elim c.then-k-named.branch [
      | then-k-named-via-then-k-named w ↦ sym (not_earlier list count l.k (omega arith) (omega arith))
      | then-k-named-via-else-k-named+then-marks-named w ↦ elim w.if-named-ne0.branch [
        | then-named-ne0 v ↦
            let marked : get_or l.marks c.from-named.result false ≡ true = cc in
            sym (not_once list l.k l.marks l.invariant.0 count (omega arith) (omega arith) (omega arith)
            (λ z. v.if-named-ne0.true (e ∙ z)) (rw e at marked))
        | else-named-ne0 v ↦ absurd_bool (rw v.if-named-ne0.false at (sym w.if-marks-named.true ∙ v.value-is))
      ]
    ]

pub loop-k-preserved : goal.loop-k-preserved
loop-k-preserved c =
    let list = c.args.list.now in
    let l = c.loop-k in
    let e : c.from-named.result ≡ get_or list l.k 0 = c.from-named.ensures in (
      rw e
          (checked_more list l.k l.marks l.invariant.0 (omega arith) (omega arith)
          (elim c.if-named-ne0.branch [
            | then-named-ne0 v ↦
                let unmarked : get_or l.marks c.from-named.result false ≡ false = cc in
                inr (rw e at unmarked)
            | else-named-ne0 v ↦ inl (sym e ∙ v.if-named-ne0.false)
          ])),
      omega arith,
      omega arith,
      omega arith,
    )

pub returns : goal.returns
returns c =
    let a = c.args in
    let l = c.loop-k in
    let e : a.count ≡ l.k = omega arith in
    rw e (sym (checked-all a.list.now l.k l.marks l.invariant.0 (omega arith) (omega arith)))
