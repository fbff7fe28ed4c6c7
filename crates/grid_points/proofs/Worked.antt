-- The worked grids hold of the definitions. Assumes nothing.
use mathlib.Core.List.{map}
use mathlib.Core.Path.{◌≡◌, refl}
use Rattle.questions.specs.Questions.{first_no}
use Rattle.grid_points.specs.Grid.{bound, points}
use Rattle.grid_points.specs.Worked.{given, table}

worked : map given table ≡ map (λ r. r.numbers) table
unfolding first_no points bound
worked = refl
