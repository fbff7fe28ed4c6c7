-- `slip::fields::default_start` meets its contract. The invariant: the coordinates of the indices so far stand at the
-- front. Assumes nothing.
use mathlib.Core.Path.{◌≡◌, sym, ◌∙◌}
use lib.ListN.{replicate}
use native.Mathlib.Omega.{arith}
use Rattle.combinatorics.proofs.Fronts.{front-none}
use Rattle.combinatorics.proofs.Turns.{front-counted}
use Rattle.grid.proofs.Fields.{made-indices, indices-few}
use Rattle.grid_points.specs.Grid.{num_indices}
use Rattle.grid.specs.Made.{shape}
use Rattle.slip_fields.specs.Slip.{default_coordinate}
use Rattle.slip.proofs.fields.default_start.Goals as goal

pub loop-h-init : goal.loop-h-init
loop-h-init c = (sym (front-none (replicate 16 0)), indices-few c.args.grid c.requires)

pub loop-h-preserved : goal.loop-h-preserved
loop-h-preserved c =
    let l = c.loop-h in
    let g = shape c.args.grid in (
      rw (l.invariant.0, c.default_coordinate.ensures)
          (front-counted (default_coordinate g) (replicate 16 0) l.h (omega arith)),
      l.invariant.1,
    )

pub returns : goal.returns
returns c =
    let l = c.loop-h in
    let e : l.h ≡ num_indices (shape c.args.grid) = omega (arith, made-indices c.args.grid c.requires) in
    l.invariant.0 ∙ rw e
