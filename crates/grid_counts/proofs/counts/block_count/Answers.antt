-- `counts::block_count` meets its contract. The invariant: the row holds the binomials of r, capped.
-- Assumes nothing.
use mathlib.Core.Path.{◌≡◌, sym, ap, ◌∙◌}
use Prim.Native.Nat.{◌-◌, pred}
use native.Mathlib.Numerals.{add-one, sub-one}
use Rattle.combinatorics.proofs.Binomials.{choose_one}
use Rattle.grid_counts.proofs.Capped.{past}
use Rattle.grid_counts.specs.Capped.{capped}
use native.Mathlib.Omega.{arith}
use Rattle.grid_counts.proofs.counts.block_count.Goals as goal

pub returns-then-size-eq2 : goal.returns-then-size-eq2
returns-then-size-eq2 c =
    let a = c.args in
    let e : pred a.size ≡ 1 = omega arith in
    c.cap.ensures ∙ rw e (ap capped (sym (choose_one a.division)))

pub returns-then-row-last-gt-MAX_POINTS : goal.returns-then-row-last-gt-MAX_POINTS
returns-then-row-last-gt-MAX_POINTS c =
    let l = c.loop in
    let a = c.args in
    rw (← sub-one a.size)
    (past l.counter a.division (a.size - 1) (omega arith) (omega (arith, l.invariant.0 (a.size - 1) (omega arith))))

pub loop-preserved : goal.loop-preserved
loop-preserved c =
    let l = c.loop in
    (rw add-one (c.next_row.ensures.1 l.counter l.invariant.0), c.next_row.ensures.0)
