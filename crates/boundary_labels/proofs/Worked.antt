-- The worked tables hold. Assumes nothing.
use mathlib.Core.List.{map}
use mathlib.Core.Path.{◌≡◌, refl}
use Rattle.grid_points.specs.Grid.{points, previous}
use Rattle.boundary_labels.specs.Boundary.{boundary_index, boundary_table, is_interior}
use Rattle.boundary_labels.specs.Boundary.{is_zero_behind_positive, new_label}
use Rattle.boundary_labels.specs.Worked.{table}

worked : map (λ r. boundary_table r.grid r.old) table ≡ map (λ r. r.new) table
unfolding boundary_table new_label is_interior boundary_index is_zero_behind_positive points previous
worked = refl
