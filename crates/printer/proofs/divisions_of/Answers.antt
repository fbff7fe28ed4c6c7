-- `printer::divisions_of` meets its contract. The invariant: the divisions of the indices so far stand at the front.
-- Assumes nothing.
use mathlib.Core.Path.{◌≡◌, sym, ◌∙◌}
use Prim.Native.Nat.{◌<◌}
use lib.ListN.{replicate}
use native.Mathlib.Omega.{arith}
use Rattle.combinatorics.proofs.Fronts.{front-none}
use Rattle.combinatorics.proofs.Turns.{front-counted}
use Rattle.grid.proofs.Fields.{made-blocks, made-indices, made-division, blocks-range, indices-few}
use Rattle.grid_points.proofs.Round.{block_spans}
use Rattle.grid_points.specs.Grid.{num_indices, division, block_of}
use Rattle.grid.specs.Made.{shape}
use Rattle.printer.proofs.divisions_of.Goals as goal
use Rattle.printer.proofs.divisions_of.Goals.{After-block_of}

pub loop-h-init : goal.loop-h-init
loop-h-init c = (sym (front-none (replicate 16 0)), indices-few c.args.grid c.requires)

-- the block of the index is one of the grid's
inside : (c : After-block_of)
    → (c.block_of.result < c.args.grid.blocks) × (c.block_of.result < 6)
inside c =
    let g = c.args.grid in
    let b = (block_spans (shape g).sizes c.loop-h.h (omega (arith, made-indices g c.requires))).0 in
    rw c.block_of.ensures
    (omega (arith, b, made-blocks g c.requires), omega (arith, b, made-blocks g c.requires, (blocks-range g c.requires).1))

pub offset_bounds-grid-block_of : goal.offset_bounds-grid-block_of
offset_bounds-grid-block_of c = omega (arith, (inside c).1)

pub bounds-grid-block_of : goal.bounds-grid-block_of
bounds-grid-block_of c = (inside c).1

pub loop-h-preserved : goal.loop-h-preserved
loop-h-preserved c =
    let l = c.loop-h in
    let g = shape c.args.grid in
    let d = made-division c.args.grid c.requires c.block_of.result (inside (goal.at.loop-h-preserved c).After-block_of).0 in (
      rw (l.invariant.0, d, c.block_of.ensures)
          (front-counted (λ h. division g (block_of g h)) (replicate 16 0) l.h (omega arith)),
      l.invariant.1,
    )

pub returns : goal.returns
returns c =
    let l = c.loop-h in
    let e : l.h ≡ num_indices (shape c.args.grid) = omega (arith, made-indices c.args.grid c.requires) in
    l.invariant.0 ∙ rw e
