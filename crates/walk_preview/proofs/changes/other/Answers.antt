-- `changes::other` meets its contract. Assumes nothing.
use mathlib.Core.Path.{◌≡◌, sym, ◌∙◌}
use Prim.Native.Nat.{suc, ◌+◌}
use lib.ListN.{length, take}
use lib.Seq.{length-take-le}
use native.Mathlib.Numerals.{add-one}
use native.Mathlib.Omega.{arith}
use Rattle.walk_preview.proofs.Among.{outside-later}
use Rattle.walk_preview.proofs.changes.other.Goals as goal

pub loop-j-preserved : goal.loop-j-preserved
loop-j-preserved c =
    let a = c.args in
    let l = c.loop-j in
    let marks = a.marks.now in
    let items : length (take (a.n + 1) marks) ≡ a.n + 1 = length-take-le (a.n + 1) marks (omega arith) in
    let long : length (take (suc a.n) marks) ≡ suc a.n = length-take-le (suc a.n) marks (omega arith) in
    let e = rw (add-one a.n) at (sym c.among.ensures ∙ c.if-not-among.false) in
    rw (add-one l.j)
    (outside-later (take (suc a.n) marks) (take (suc a.k) a.others.now) l.j (omega arith) e ∙ l.invariant)
