-- `ending::ended` meets its contract: there are at most six blocks. Assumes nothing.
use Prim.Native.Nat.{◌<◌}
use native.Mathlib.Omega.{arith}
use Rattle.grid.proofs.Fields.{blocks-range, made-blocks, made-indices}
use Rattle.grid.specs.Made.{shape}
use Rattle.grid_points.proofs.Round.{block_spans}
use Rattle.walk_ways.proofs.ending.ended.Goals as goal
use Rattle.walk_ways.proofs.ending.ended.Goals.{After-block_of}

block-few : (c : After-block_of) → c.block_of.result < 255
block-few c =
    let g = c.args.g in
    let made = c.requires.made.0 in
    let span = block_spans (shape g).sizes c.args.h (omega (arith, c.requires.made.1, made-indices g made)) in
    omega (arith, c.block_of.ensures, span.0, made-blocks g made, blocks-range g made)

pub overflow_cast-block : goal.overflow_cast-block
overflow_cast-block c = let few = block-few (goal.at.overflow_cast-block c).After-block_of in omega arith

pub overflow_add-block : goal.overflow_add-block
overflow_add-block c = let few = block-few (goal.at.overflow_add-block c).After-block_of in omega arith
