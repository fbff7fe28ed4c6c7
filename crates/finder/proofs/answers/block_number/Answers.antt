-- `finder::answers::block_number` meets its contract: there are at most six blocks. Assumes nothing.
use native.Mathlib.Omega.{arith}
use Rattle.grid.proofs.Fields.{blocks-range, made-blocks, made-indices}
use Rattle.grid_points.proofs.Round.{block_spans}
use Rattle.grid.specs.Made.{shape}
use Rattle.finder.proofs.answers.block_number.Goals as goal

pub overflow_cast-result : goal.overflow_cast-result
overflow_cast-result c =
    let g = c.args.g in
    omega (
      arith,
      c.block_of.ensures,
      (block_spans (shape g).sizes c.args.h (omega (arith, c.requires.1, made-indices g c.requires.0))).0,
      (blocks-range g c.requires.0).1,
      made-blocks g c.requires.0,
    )

pub overflow_add-result : goal.overflow_add-result
overflow_add-result c =
    let g = c.args.g in
    omega (
      arith,
      c.block_of.ensures,
      (block_spans (shape g).sizes c.args.h (omega (arith, c.requires.1, made-indices g c.requires.0))).0,
      (blocks-range g c.requires.0).1,
      made-blocks g c.requires.0,
    )

pub returns : goal.returns
returns c = omega (arith, c.block_of.ensures)
