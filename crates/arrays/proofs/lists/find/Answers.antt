-- `lists::find` meets its contract. The invariant: the search from entry k on finds what the search from the first
-- finds. The measure: the entries left. Assumes nothing.
use mathlib.Core.List.{List, map}
use mathlib.Core.Path.{◌≡◌, refl, sym, ap, ◌∙◌}
use Prim.Native.Nat.{ℕ, ◌≤◌, ◌<◌}
use lib.ListN.{length, length-map, get_or, take}
use lib.Seq.{length-take-le, get_or-take}
use native.Mathlib.Numerals.{add-one}
use native.Mathlib.Omega.{arith}
use Rattle.combinatorics.proofs.EditsOfArrays.{first-few, found_here, found-later, found_past}
use Rattle.rules.specs.Moves.{mark_label}
use Rattle.rules.proofs.Marks.{labels_in}
use Rattle.arrays.proofs.lists.find.Goals as goal
use Rattle.arrays.proofs.lists.find.Goals.{else-label_in-x-via-then-label_in-x+else-k-but, else-label_in-x-via-else-label_in-x}

pub loop-k-init : goal.loop-k-init
loop-k-init c = refl

-- the label of entry k is among the labels
label-at : (a : List ℕ) (n k : ℕ) → k < n → n ≤ length a
    → (k < length (map mark_label (take n a))) × (get_or (map mark_label (take n a)) k 0 ≡ mark_label (get_or a k 0))
label-at a n k l m =
    let long = length-take-le n a m in (
      rw (length-map (take n a) mark_label, long) l,
      labels_in (take n a) k (omega arith) ∙ ap mark_label (get_or-take n a k 0 l),
    )

pub loop-k-preserved : goal.loop-k-preserved
loop-k-preserved c =
    let a = c.args in
    let l = c.loop-k in
    let here = label-at a.a.now a.n l.k (omega arith) (omega arith) in
    let other : (get_or (map mark_label (take a.n a.a.now)) l.k 0 ≡ a.x → l.k ≡ a.but) = elim c.else-label_in-x.branch [
      | else-label_in-x-via-then-label_in-x+else-k-but w ↦ λ e. w.if-k-but.false
      | else-label_in-x-via-else-label_in-x w ↦ λ e. absurd (w.if-label_in-x.false (c.label_in.ensures ∙ sym here.1 ∙ e))
    ] in
    rw add-one
    (sym (found-later a.x a.but l.k (map mark_label (take a.n a.a.now)) here.0 other)
    ∙ l.invariant)

pub returns : goal.returns
returns c =
    let a = c.args in
    let l = c.loop-k in
    let end : a.n ≡ l.k = omega arith in
    end ∙ found_past a.x a.but l.k (map mark_label (take a.n a.a.now))
    (rw (length-map (take a.n a.a.now) mark_label) (omega (arith, first-few a.n a.a.now)))
    ∙ l.invariant

pub returns-then-k-but : goal.returns-then-k-but
returns-then-k-but c =
    let a = c.args in
    let l = c.loop-k in
    let here = label-at a.a.now a.n l.k (omega arith) (omega arith) in
    sym (found_here a.x a.but l.k (map mark_label (take a.n a.a.now)) here.0
    (here.1 ∙ sym c.label_in.ensures ∙ c.if-label_in-x.true) c.if-k-but.true)
    ∙ l.invariant
