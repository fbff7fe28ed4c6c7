-- The worked sheets have their answers by the definitions, and the test by coefficient lists gives the same.
-- Assumes nothing.
use mathlib.Core.Bool.{cond}
use mathlib.Core.List.{map}
use mathlib.Core.Option.{none}
use mathlib.Core.Path.{◌≡◌, refl}
use Rattle.grid_points.specs.Grid.{previous, is_grid_point, points}
use Rattle.place.specs.Coefficients.{coefficients}
use Rattle.place.specs.Ends.{is_complete, complete_for}
use Rattle.place.specs.Places.{set_u, label_set, goes_to}
use Rattle.place.specs.Problem.{label}
use Rattle.check_simplices.specs.Chains.{one_chain}
use Rattle.check_simplices.specs.Simplices.{is_order, is_simplex, in_one_simplex, labelled_by, first_of, verdict}
use Rattle.check_simplices.specs.Worked.{table}

worked : map (λ r. verdict r.grid r.labels r.points) table ≡ map (λ r. r.answer) table
unfolding previous is_grid_point points label set_u label_set is_complete complete_for goes_to is_order is_simplex in_one_simplex
    verdict
worked = refl

tested : map
    (λ r. cond (one_chain r.grid r.points) (first_of (complete_for (labelled_by r.grid r.labels) r.points)) none)
    table
    ≡ map (λ r. r.answer) table
unfolding points label coefficients set_u label_set is_complete complete_for one_chain
tested = refl
