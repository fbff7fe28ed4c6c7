-- `answers::start_position` meets its contract: no steps leave the start as it is. Assumes nothing.
use mathlib.Core.Path.{ap, ◌∙◌}
use native.Mathlib.Omega.{arith}
use Rattle.grid.proofs.Fields.{indices-few, made-accepted}
use Rattle.grid_points.specs.Grid.{is_grid_point, position}
use Rattle.grid.specs.Made.{shape}
use Rattle.positions.proofs.Steps.{none_after, none-can}
use Rattle.trail_steps.proofs.Arrived.{position-low}
use Rattle.trail_reader.proofs.answers.start_position.Goals as goal

pub position-requires : goal.position-requires
position-requires c =
    let a = c.args in
    let w = c.requires in
    let few = indices-few a.g w.measured.made in
    let stays = none_after a.first.now a.g.indices few (omega (arith, few, w.first_length)) in record {
      made = (w.measured.made, w.measured.filled);
      can_take_steps = (
        none-can a.first.now a.g.indices few,
        ap (is_grid_point (shape a.g)) stays ∙ w.has_start.start,
      );
    }

pub returns : goal.returns
returns c =
    let a = c.args in
    let w = c.requires in
    let few = indices-few a.g w.measured.made in
    let stays = none_after a.first.now a.g.indices few (omega (arith, few, w.first_length)) in
    let e = c.position.ensures ∙ ap (position (shape a.g)) stays in
    let low = (made-accepted a.g w.measured.made).few_points in
    (e, omega (arith, e, position-low w.has_start low _ w.has_start.start))
