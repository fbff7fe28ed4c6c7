-- `write` meets its contract: the grid's arrays are lent, and the array holds the first point. Assumes nothing.
use mathlib.Core.Path.{refl, sym, ◌∙◌}
use Prim.Native.Nat.{◌≤◌}
use lib.ListN.{length}
use lib.Seq.{length-take-le}
use native.Mathlib.Omega.{arith}
use Rattle.grid.proofs.Fields.{blocks-range, indices-few, made-accepted, made-indices, made-points, made-previous}
use Rattle.grid.specs.Made.{shape}
use Rattle.game_labels.proofs.Outcomes.{made-firsts}
use Rattle.points_in_order.proofs.PointAfter.{first_array}
use Rattle.boundary.proofs.table.write.Goals as goal
use Rattle.boundary.proofs.table.write.Goals.{After-first_point}

pub shared_ref_as_front-sizes : goal.shared_ref_as_front-sizes
shared_ref_as_front-sizes c = (blocks-range c.args.grid c.requires.0).1

pub shared_ref_as_front-divisions : goal.shared_ref_as_front-divisions
shared_ref_as_front-divisions c = (blocks-range c.args.grid c.requires.0).1

pub first_point-requires : goal.first_point-requires
first_point-requires c = (made-firsts c.args.grid c.requires.0, refl)

-- the first point stands at the front of an array of 16 numbers
room : (c : After-first_point) → c.args.grid.indices ≤ length c.first_point.new.point
room c =
    let g = c.args.grid in
    let first = first_array (shape g).sizes (shape g).divisions (made-accepted g c.requires.0) in
    rw (c.first_point.ensures, first.0) (indices-few g c.requires.0)

pub slice_bounds-point-end : goal.slice_bounds-point-end
slice_bounds-point-end c = room (goal.at.slice_bounds-point-end c).After-first_point

pub slice_bounds-write_from-end : goal.slice_bounds-write_from-end
slice_bounds-write_from-end c = sym (length-take-le _ _ (room (goal.at.slice_bounds-write_from-end c).After-first_point))

pub write_from-requires : goal.write_from-requires
write_from-requires c =
    let g = c.args.grid in
    let made = c.requires.0 in
    let first = first_array (shape g).sizes (shape g).divisions (made-accepted g made) in
    record {
      grid = made-firsts g made;
      befores = λ h l. made-previous g made h (omega (arith, made-indices g made));
      first = rw (c.first_point.ensures, made-indices g made) first.1;
      old_whole = c.requires.1 ∙ made-points g made;
      room = c.requires.2 ∙ made-points g made;
    }
