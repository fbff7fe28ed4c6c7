-- `lists::rotate_right_lem` meets its contract: the list less its last stands behind what was last. Assumes nothing.
use mathlib.Core.Path.{◌≡◌, ◌∙◌}
use Prim.Native.Nat.{suc, ◌+◌, ◌-◌}
use lib.ListN.{drop, take}
use native.Mathlib.Numerals.{add-one}
use native.Mathlib.Omega.{arith}
use Rattle.combinatorics.proofs.EditsOfArrays.{rotate_right_lem}
use Rattle.combinatorics.specs.Edits.{rotate_right}
use Rattle.arrays.proofs.lists.rotate_right.Goals as goal

pub returns : goal.returns
returns c =
    let a = c.args in
    let n : suc (a.n - 1) ≡ a.n = omega arith in
    let made : take (a.n - 1 + 1) c.insert.new.a ≡ rotate_right (take (suc (a.n - 1)) a.a.now) =
    c.insert.ensures.0 ∙ rotate_right_lem (a.n - 1) a.a.now (omega arith)
    in
    let behind : drop (a.n - 1 + 1) c.insert.new.a ≡ drop (a.n - 1 + 1) a.a.now = c.insert.ensures.2 in
    let one : a.n - 1 + 1 ≡ a.n = omega arith in
    (rw (add-one, n) at made, c.insert.ensures.1, rw one at behind)
