-- What is known where a point is labelled and where the table is written. The call's own promise does not cite it.
-- Assumes nothing.
use Rattle.std.specs.Prelude.{true, cond, List, [], ◌≡◌, ℕ, ◌≤◌, ◌<◌, eqb, length, get_or}
use Rattle.questions.specs.Questions.{first_no}
use Rattle.grid_points.specs.Grid.{Grid, Point, is_grid_point, num_indices, num_points, points, previous}
use Rattle.grid_points.specs.Questions.{grid_questions}
use Rattle.points_in_order.specs.Lent.{WithFirsts}

-- the array has the index before each index, round its block
abbrev pub IsPrevious : Grid → List ℕ → Type 0
IsPrevious g before = (h : ℕ) → h < num_indices g → get_or before h 0 ≡ previous g h

-- a point of an accepted grid, with the index before each
pub record PointToLabel (g : Grid) (before : List ℕ) (y : Point) : Type 0 where
  pub accepted : first_no (grid_questions g) ≡ 0
  pub is_point : is_grid_point g y ≡ true
  pub befores : IsPrevious g before

-- an accepted grid, its first point, an old table and a buffer of P bytes each
pub record TableToLabel (g : Grid) (firsts before old : List ℕ) (point : Point) (buffer : List ℕ) : Type 0 where
  pub grid : WithFirsts g firsts
  pub befores : IsPrevious g before
  pub first : point ≡ get_or (points g) 0 []
  pub old_whole : length old ≡ num_points g
  pub room : length buffer ≡ num_points g

-- the label found, or the old one where none was, which is 0
abbrev pub found_or : ℕ → ℕ → ℕ
found_or found old = cond (eqb found 0) old found

-- a part of a table has one label, found for all of it, or the old ones
abbrev pub FilledBy : List ℕ → List ℕ → ℕ → ℕ → ℕ → Type 0
FilledBy table old found from to = (i : ℕ) → from ≤ i → i < to → found_or found (get_or old i 0) ≡ get_or table i 0
