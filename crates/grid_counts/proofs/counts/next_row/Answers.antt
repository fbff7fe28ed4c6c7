-- `counts::next_row` meets its contract. The invariant: before k stand the binomials of the next row, from k on
-- those of the old one. Assumes nothing.
use Prim.Native.Nat.{ℕ, ◌+◌}
use lib.ListN.{length-set, set}
use Rattle.grid_counts.specs.Capped.{IsRow}
use Rattle.grid_counts.proofs.Capped.{Raised, raised-start, raised-end, raised_turn, small_turn}
use native.Mathlib.Omega.{arith}
use Rattle.grid_counts.proofs.counts.next_row.Goals as goal
use Rattle.grid_counts.proofs.counts.next_row.Goals.{After-cap}

-- the row after a turn
turn : (c : After-cap) (r : ℕ) → IsRow r c.args.last c.args.row.now
    → Raised r c.args.last (c.loop-k.k + 1) (set c.loop-k.row c.loop-k.k c.cap.result)
turn c r h =
    let l = c.loop-k in
    rw c.cap.ensures
    (raised_turn r c.args.last l.k l.row (omega arith) (omega arith) (omega arith) (l.invariant.2 r h))

pub loop-k-init : goal.loop-k-init
loop-k-init c =
    let a = c.args in
    (c.requires.1, c.requires.2, (λ r h. raised-start r a.last a.row.now h))

pub loop-k-preserved : goal.loop-k-preserved
loop-k-preserved c =
    let l = c.loop-k in (
      simp length-set l.invariant.0,
      small_turn c.args.last l.k c.cap.result l.row (omega arith) (omega arith) l.invariant.1,
      turn (goal.at.loop-k-preserved c).After-cap,
    )

pub returns : goal.returns
returns c =
    let l = c.loop-k in
    (l.invariant.0, λ r h. raised-end r c.args.last l.k l.row (omega arith) (l.invariant.2 r h))

pub returns-2 : goal.returns-2
returns-2 c =
    let l = c.loop-k in (
      simp length-set l.invariant.0,
      λ r h. raised-end r c.args.last (l.k + 1) (set l.row l.k c.cap.result) (omega arith) (turn (goal.at.returns-2 c).After-cap r h),
    )
