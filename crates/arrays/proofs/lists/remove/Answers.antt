-- `lists::remove` meets its contract. The invariant: the entries less entry k are the old ones less the entry asked
-- for, and the last of the list and what stands behind it are as they were. Assumes nothing.
use Rattle.std.proofs.Common.{◌≡◌, refl, sym, ◌∙◌, suc, ◌-◌, arith}
use lib.ListN.{length-set}
use lib.Seq.{drop-set-lt}
use Rattle.combinatorics.proofs.EditsOfArrays.{remove_forward, remove_last}
use Rattle.arrays.proofs.lists.remove.Goals as goal

pub loop-k-init : goal.loop-k-init
loop-k-init c = (omega arith, refl, refl)

pub loop-k-preserved : goal.loop-k-preserved
loop-k-preserved c =
    let a = c.args in
    let l = c.loop-k in (
      rw length-set (omega arith),
      remove_forward l.a a.n l.k (omega arith) (omega arith) ∙ l.invariant.1,
      drop-set-lt (a.n - 1) l.a l.k _ (omega arith) ∙ l.invariant.2,
    )

pub returns : goal.returns
returns c =
    let a = c.args in
    let l = c.loop-k in
    let e : a.n ≡ suc l.k = omega arith in
    let z : a.n - 1 ≡ l.k = omega arith in
    (rw z (sym (remove_last l.k l.a) ∙ rw (← e) l.invariant.1), l.invariant.0, l.invariant.2)
