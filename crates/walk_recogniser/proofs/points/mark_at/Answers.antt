-- `points::mark_at` meets its contract. Assumes nothing.
use Rattle.grid.proofs.Fields.{made-accepted}
use Rattle.walk_recogniser.proofs.Steps.{position-low}
use Rattle.walk_recogniser.specs.Pieces.{point_with}
use native.Mathlib.Omega.{arith}
use Rattle.walk_recogniser.proofs.points.mark_at.Goals as goal

pub overflow_cast-result : goal.overflow_cast-result
overflow_cast-result c = let a = c.args in
    let made = c.requires.0.made in
    omega (
      arith,
      position-low a.g made (point_with a.g a.first.now a.steps.now) c.requires.1.point,
      (made-accepted a.g made).few_points,
    )

pub overflow_mul-result : goal.overflow_mul-result
overflow_mul-result c = let a = c.args in
    let made = c.requires.0.made in
    omega (
      arith,
      position-low a.g made (point_with a.g a.first.now a.steps.now) c.requires.1.point,
      (made-accepted a.g made).few_points,
    )
