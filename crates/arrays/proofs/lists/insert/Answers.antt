-- `lists::insert` meets its contract. The invariant: x stored at k would be x put before entry k, and what stands
-- behind the list is as it was. Assumes nothing.
use Rattle.std.proofs.Common.{◌≡◌, refl, ◌∙◌, suc, ◌+◌, ◌-◌, ◌≤◌, length, take, arith}
use lib.ListN.{length-set}
use lib.Seq.{drop-set-lt, length-take-le}
use native.Mathlib.Numerals.{add-one}
use Rattle.combinatorics.proofs.EditsOfArrays.{insert-last, insert-back}
use Rattle.arrays.proofs.lists.insert.Goals as goal

pub loop-k-init : goal.loop-k-init
loop-k-init c = let a = c.args in (omega arith, omega arith, insert-last a.n a.x a.a.now (omega arith), refl)

pub loop-k-preserved : goal.loop-k-preserved
loop-k-preserved c =
    let a = c.args in
    let l = c.loop-k in
    let m = take a.n a.a.now in
    let long : a.n ≤ length m = rw (length-take-le a.n a.a.now (omega arith)) (omega arith) in
    let z : l.k - 1 + 1 ≡ l.k = omega arith in (
      omega arith,
      rw length-set (omega arith),
      rw z (insert-back l.a m a.n l.k a.x (omega arith) (omega arith) (omega arith) long l.invariant.2),
      drop-set-lt (suc a.n) l.a (l.k - 1 + 1) _ (omega arith) ∙ l.invariant.3,
    )

pub returns : goal.returns
returns c =
    let a = c.args in
    let l = c.loop-k in
    let e : a.at ≡ l.k = omega arith in (
      rw (add-one, e) l.invariant.2,
      rw length-set (omega arith),
      rw add-one (drop-set-lt (suc a.n) l.a a.at a.x (omega arith) ∙ l.invariant.3),
    )
