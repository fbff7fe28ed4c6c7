-- What a run is about: a grid, a start and a label table. Assumes nothing.
use Rattle.std.specs.Prelude.{Bool, ◌&&◌, List, ℕ, leb, get_or}
use Rattle.grid_points.specs.Grid.{Grid, Point, lent, position, num_indices}

-- What a run is about: a grid, "v is the start", and "The label table"
pub record Problem : Type 0 where
  pub grid : Grid
  pub start : Point
  pub labels : List ℕ

abbrev pub problem_of : List ℕ → List ℕ → Point → List ℕ → Problem
problem_of sizes divisions start labels = record {
  grid = lent sizes divisions;
  start = start;
  labels = labels;
}

-- "The label table has one byte per point in that order"; 0 where there is none
unfoldable pub label : Problem → Point → ℕ
label p y = get_or p.labels (position p.grid y) 0

-- Request 02, "Label 0 now means not yet known": the label of a point is an index, counted from 1, or the point
-- has none
abbrev pub has_label : Problem → Point → Bool
has_label p y = leb 1 (label p y) && leb (label p y) (num_indices p.grid)

-- the same grid and start with another table
abbrev pub with_labels : Problem → List ℕ → Problem
with_labels p labels = record { grid = p.grid; start = p.start; labels = labels }
