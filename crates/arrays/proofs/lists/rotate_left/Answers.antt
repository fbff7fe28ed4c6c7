-- `lists::rotate_left_lem` meets its contract: what was first stands behind the list less its first. Assumes nothing.
use mathlib.Core.Path.{◌≡◌, sym, ap, ◌∙◌}
use Prim.Native.Nat.{suc, ◌+◌, ◌-◌, ◌<◌}
use lib.ListN.{length, length-set, drop, get_or, take, set}
use lib.Seq.{drop-drop, drop-set-lt, length-take-le, get_or-take, take-suc-set}
use native.Mathlib.Omega.{arith}
use Rattle.combinatorics.proofs.EditsOfArrays.{rotate_left_lem}
use Rattle.combinatorics.specs.Edits.{rotate_left}
use Rattle.arrays.proofs.lists.rotate_left.Goals as goal

pub returns : goal.returns
returns c =
    let a = c.args in
    let l = take a.n a.a.now in
    let n : suc (a.n - 1) ≡ a.n = omega arith in
    let long : 0 < length l = rw (length-take-le a.n a.a.now (omega arith)) (omega arith) in
    let x : get_or l 0 0 ≡ get_or a.a.now 0 0 = get_or-take a.n a.a.now 0 0 (omega arith) in
    let made : take (suc (a.n - 1)) (set c.remove.new.a (a.n - 1) (get_or a.a.now 0 0)) ≡ rotate_left l = rw (
      take-suc-set c.remove.new.a (a.n - 1) (get_or a.a.now 0 0) (omega arith),
      c.remove.ensures.0,
      ← x,
    ) (rotate_left_lem l long) in
    let r = c.remove.new.a in
    let more : drop 1 (drop (a.n - 1) r) ≡ drop 1 (drop (a.n - 1) a.a.now) = ap (drop 1) c.remove.ensures.2
    in
    let one : a.n - 1 + 1 ≡ a.n = omega arith in
    let behind : drop a.n r ≡ drop a.n a.a.now =
    rw one at (sym (drop-drop 1 (a.n - 1) r) ∙ more ∙ drop-drop 1 (a.n - 1) a.a.now) in (
      rw n at made,
      rw length-set (omega arith),
      drop-set-lt a.n r (a.n - 1) (get_or a.a.now 0 0) (omega arith) ∙ behind,
    )
