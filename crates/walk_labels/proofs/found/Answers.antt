-- `found` meets its contract. Assumes nothing.
use mathlib.Core.Path.{◌≡◌, sym, ◌∙◌}
use Prim.Native.Nat.{◌+◌}
use lib.ListN.{length, take}
use lib.Seq.{get_or-take, length-take-le}
use native.Mathlib.Omega.{arith}
use Rattle.walk_labels.proofs.Carrying.{found_at, found_none}
use Rattle.walk_labels.proofs.found.Goals as goal

pub returns-then-other-mark : goal.returns-then-other-mark
returns-then-other-mark c =
    let a = c.args in
    let l = c.loop-i in
    let long : length (take (a.n + 1) a.marks.now) ≡ a.n + 1 = length-take-le (a.n + 1) a.marks.now (omega arith) in
    found_at a.marks.now a.n a.mark c.requires.0 c.requires.1 l.i (omega arith)
    (sym (get_or-take (a.n + 1) a.marks.now l.i 0 (omega arith)) ∙ c.if-other-mark.true)

pub returns : goal.returns
returns c =
    let a = c.args in
    let long : length (take (a.n + 1) a.marks.now) ≡ a.n + 1 = length-take-le (a.n + 1) a.marks.now (omega arith) in
    found_none a.marks.now a.n a.mark c.requires.0 c.requires.1 (a.n + 1) (omega arith)
    (λ j jl. c.loop-i.invariant j (omega arith))
