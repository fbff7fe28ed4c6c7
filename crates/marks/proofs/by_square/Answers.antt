-- `marks::by_square` meets its contract: the positions of the corners of a square add up. Assumes nothing.
use Rattle.std.proofs.Common.{◌≡◌, sym, ◌∙◌, suc, ◌+◌, arith}
use Rattle.grid.specs.Made.{shape}
use Rattle.grid_points.specs.Grid.{position}
use Rattle.moves.specs.Held.{state_of}
use Rattle.rules.specs.Read.{point_on}
use Rattle.rules.specs.Moves.{State}
use Rattle.marks.proofs.Readings.{corner-indices, corners_add}
use Rattle.marks.proofs.by_square.Goals as goal
use Rattle.marks.proofs.by_square.Goals.{After-position_at-3, Start}

abbrev place : Start → State
place c = state_of c.args.round.now c.args.held.now c.args.s

pub add_up-requires-clause-h_lt_indices : goal.add_up-requires-clause-h_lt_indices
add_up-requires-clause-h_lt_indices c =
    let start = (goal.at.add_up-requires-clause-h_lt_indices c).Start in
    rw (c.index_at-h.ensures.is, c.index_at-k.ensures.is)
    (corner-indices c.args.g c.requires.made.0 (place start) c.requires.made.2 c.requires.exchanged)

adds : (c : After-position_at-3)
    → let g = shape c.args.g in
    let x = place (goal.at.After-position_at-3 c).Start in
    position g (point_on g x x.active) + c.position_at-3.result ≡ c.position_at.result + c.position_at-2.result
adds c =
    let apart = rw (c.index_at-h.ensures.is, c.index_at-k.ensures.is)
    at (sym c.add_up.ensures ∙ c.if-not-add_up.false) in
    let up : c.args.s.active + 1 ≡ suc c.args.s.active = omega arith in
    let start = (goal.at.After-position_at-3 c).Start in
    let sum = corners_add c.args.g c.requires.made.0 (place start) c.requires.made.2 c.requires.exchanged apart in
    let far = rw up at c.position_at-2.ensures.0 in
    omega (arith, c.position_at.ensures.0, c.position_at-3.ensures.0)

pub overflow_sub-result : goal.overflow_sub-result
overflow_sub-result c = omega (arith, adds c)

pub returns : goal.returns
returns c = omega (arith, adds c)
