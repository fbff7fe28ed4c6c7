-- `slip::fields::default_coordinate` meets its contract. The block of an index is one of the grid's. Assumes nothing.
use mathlib.Core.Path.{◌∙◌}
use Prim.Native.Nat.{◌<◌}
use native.Mathlib.Omega.{arith}
use Rattle.grid.proofs.Fields.{made-blocks, made-indices, made-division, made-first, blocks-range}
use Rattle.grid_points.proofs.Round.{block_spans}
use Rattle.grid.specs.Made.{shape}
use Rattle.slip_fields.proofs.Laws.{default_first, default_other}
use Rattle.slip.proofs.fields.default_coordinate.Goals as goal
use Rattle.slip.proofs.fields.default_coordinate.Goals.{After-block_of-j}

-- the block of the index is one of the grid's
inside : (c : After-block_of-j)
    → (c.block_of-j.result < c.args.grid.blocks) × (c.block_of-j.result < 6)
inside c =
    let g = c.args.grid in
    let m = c.requires.0 in
    let b = (block_spans (shape g).sizes c.args.h (omega (arith, made-indices g m))).0 in
    rw c.block_of-j.ensures
    (omega (arith, b, made-blocks g m), omega (arith, b, made-blocks g m, (blocks-range g m).1))

pub bounds-grid-j : goal.bounds-grid-j
bounds-grid-j c = (inside c).1

pub offset_bounds-grid-j : goal.offset_bounds-grid-j
offset_bounds-grid-j c = omega (arith, (inside (goal.at.offset_bounds-grid-j c).After-block_of-j).1)

pub bounds-grid-j-then-h-from : goal.bounds-grid-j-then-h-from
bounds-grid-j-then-h-from c = (inside (goal.at.bounds-grid-j-then-h-from c).After-block_of-j).1

pub returns-then-h-from : goal.returns-then-h-from
returns-then-h-from c =
    let g = c.args.grid in
    let b = c.block_of-j in
    let i = (inside (goal.at.returns-then-h-from c).After-block_of-j).0 in
    let f = made-first g c.requires.0 b.result i in
    made-division g c.requires.0 b.result i
    ∙ default_first (shape g) c.args.h b.result b.ensures (omega (arith, f))

pub returns-else-h-from : goal.returns-else-h-from
returns-else-h-from c =
    let g = c.args.grid in
    let b = c.block_of-j in
    let f = made-first g c.requires.0 b.result (inside (goal.at.returns-else-h-from c).After-block_of-j).0 in
    default_other (shape g) c.args.h b.result b.ensures (λ e. c.if-h-from.false (omega (arith, e, f)))
