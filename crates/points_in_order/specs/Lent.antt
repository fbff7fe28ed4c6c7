-- What is known of a grid and a grid point that are lent as arrays. Assumes nothing.
use Rattle.std.specs.Prelude.{true, List, ◌≡◌, ℕ, ◌<◌, get_or}
use Rattle.grid_points.specs.Grid.{Grid, Point, num_blocks, first_index, is_grid_point}
use Rattle.questions.specs.Questions.{first_no}
use Rattle.grid_points.specs.Questions.{grid_questions}

-- questions 1 to 4 are answered yes, and the array has the first index of each block
pub record WithFirsts (g : Grid) (firsts : List ℕ) : Type 0 where
  pub accepted : first_no (grid_questions g) ≡ 0
  pub first : (j : ℕ) → j < num_blocks g → get_or firsts j 0 ≡ first_index g j

-- the same of a grid, with a point of it
pub record PointWithFirsts (g : Grid) (firsts : List ℕ) (y : Point) : Type 0 where
  pub grid : WithFirsts g firsts
  pub is_point : is_grid_point g y ≡ true
