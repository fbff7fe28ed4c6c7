-- `tables::fill_block` meets its contract. The invariant: the rows before k are right, and no entry was spoilt.
-- Assumes nothing.
use Prim.Native.Nat.{pred}
use Rattle.combinatorics.proofs.Binomials.{choose-grows}
use Rattle.positions.proofs.Table.{keeps_both, in_table, rows_next}
use Rattle.positions.specs.Binomials.{InTable}
use native.Mathlib.Omega.{arith}
use Rattle.positions.proofs.tables.fill_block.Goals as goal
use Rattle.positions.proofs.tables.fill_block.Goals.{In-loop-k}

-- the table has room for the row to fill
room : (c : In-loop-k) → InTable c.loop-k.k c.args.division
room c =
    let a = c.args in
    in_table c.loop-k.k a.division (pred a.size) (omega arith) (omega arith)
    (omega (arith, c.requires.le_size.1)) c.requires.le_size.2

pub fill_row-requires-clause-in_table : goal.fill_row-requires-clause-in_table
fill_row-requires-clause-in_table c =
    let a = c.args in
    let grows = choose-grows a.division a.division c.loop-k.k (pred a.size) (omega arith) (omega arith) in
    (room (goal.at.fill_row-requires-clause-in_table c).In-loop-k, omega (arith, grows, c.requires.le_size.2))

pub loop-k-preserved : goal.loop-k-preserved
loop-k-preserved c =
    let l = c.loop-k in
    let e = c.fill_row.ensures in (
      e.0,
      keeps_both l.invariant.1 e.1,
      rows_next l.k c.args.division l.t c.fill_row.new.t
          (room (goal.at.loop-k-preserved c).In-loop-k) l.invariant.2 e.1 e.2,
    )
