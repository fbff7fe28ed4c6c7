-- Each pair of faults is met by the number that stands there. Assumes nothing.
use mathlib.Core.List.{List, map}
use mathlib.Core.Path.{◌≡◌, refl}
use Prim.Native.Nat.{ℕ}
use Rattle.grid_points.specs.Grid.{is_grid_point, points}
use Rattle.questions.specs.Questions.{first_no}
use Rattle.question_order.specs.Pairs.{Pair, of_boundary, of_check, of_labelling, of_nearest, of_refinement, of_run}

abbrev met : List Pair → List ℕ
met pairs = map (λ p. first_no p.questions) pairs

abbrev named : List Pair → List ℕ
named pairs = map (λ p. p.number) pairs

run-order : met of_run ≡ named of_run
unfolding first_no is_grid_point points
run-order = refl

labelling_order : met of_labelling ≡ named of_labelling
unfolding first_no is_grid_point points
labelling_order = refl

refinement-order : met of_refinement ≡ named of_refinement
unfolding first_no is_grid_point points
refinement-order = refl

check_order : met of_check ≡ named of_check
unfolding first_no is_grid_point points
check_order = refl

boundary_order : met of_boundary ≡ named of_boundary
unfolding first_no is_grid_point points
boundary_order = refl

nearest-order : met of_nearest ≡ named of_nearest
unfolding first_no is_grid_point points
nearest-order = refl
