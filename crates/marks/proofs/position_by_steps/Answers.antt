-- `marks::position_by_steps` meets its contract: the steps of the point are counted, and with the first point they give
-- its position. Assumes nothing.
use Rattle.std.proofs.Common.{◌∙◌}
use Rattle.marks.proofs.Readings.{can_step_lem, point_at, steps-ready}
use Rattle.marks.proofs.position_by_steps.Goals as goal

pub advance-requires-clause-ready_point : goal.advance-requires-clause-ready_point
advance-requires-clause-ready_point c =
    let a = c.args in steps-ready a.g c.requires.0.made a.round.now a.held.now a.s c.requires.1

pub position-requires-clause-can_take_steps : goal.position-requires-clause-can_take_steps
position-requires-clause-can_take_steps c =
    let a = c.args in
    rw c.advance.ensures (
      can_step_lem a.g c.requires.0.made a.round.now a.held.now a.s c.requires.1,
      rw (point_at a.g c.requires.0.made a.round.now a.held.now a.s c.requires.1) c.requires.1.on_grid,
    )

pub returns : goal.returns
returns c =
    let a = c.args in
    c.position.ensures
    ∙ rw (c.advance.ensures, point_at a.g c.requires.0.made a.round.now a.held.now a.s c.requires.1)
