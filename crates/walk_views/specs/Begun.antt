-- The walk at {v}, as a struct. Assumes nothing.
use Rattle.std.specs.Prelude.{true, cond, List, [], ◌∷◌, ◌≡◌, ℕ, eqb, length, replicate, take}
use Rattle.grid_points.specs.Grid.{Grid, Point, is_grid_point}
use Rattle.grid.specs.Made.{IsMade, shape}
use Rattle.grid.specs.declared.Grid.{Grid as GridStruct}
use Rattle.place.specs.Problem.{Problem, label}
use Rattle.place.specs.Questions.{table_questions}
use Rattle.questions.specs.Questions.{first_no}
use Rattle.combinatorics.specs.Front.{padded}
use Rattle.walk_places.specs.Walks.{nowhere}
use Rattle.walk_places.specs.declared.Walk.{Walk as WalkStruct}
use Rattle.walk_views.specs.declared.Begun.{Begun}

-- the grid and start with the table lent
abbrev pub begun_on : Grid → Point → List ℕ → Problem
begun_on g v labels = record { grid = g; start = v; labels = labels }

-- "from {v} with 1 as its places so far"; request 10: it carries v's label, which is the one label read
abbrev pub start_walk : Grid → Point → ℕ → WalkStruct
start_walk g v carried = record {
  places = 1;
  labels_read = 1;
  present = record { first = padded 16 v; order = replicate 16 0; count = 1 };
  before = nowhere;
  start = padded 16 v;
  divisions = padded 6 g.divisions;
  sizes = padded 6 g.sizes;
  blocks = length g.sizes;
  carried = padded 16 (carried ∷ []);
}

-- what stands beside a refusal
abbrev pub no_walk : WalkStruct
no_walk = record {
  places = 0;
  labels_read = 0;
  present = nowhere;
  before = nowhere;
  start = replicate 16 0;
  divisions = replicate 6 0;
  sizes = replicate 6 0;
  blocks = 0;
  carried = replicate 16 0;
}

-- questions 1 to 7, and then the walk
unfoldable pub begun_of : Grid → Point → List ℕ → Begun
begun_of g v labels =
    let p = begun_on g v labels in
    let n = first_no (table_questions p) in
    record { code = n; walk = cond (eqb n 0) (start_walk g v (label p v)) no_walk }

-- the label of the start can be looked up
pub record CanLabelStart (g : GridStruct) (y labels : List ℕ) : Type 0 where
  pub made : IsMade g
  pub long : length y ≡ 16
  pub on_grid : is_grid_point (shape g) (take g.indices y) ≡ true
  pub whole : length labels ≡ g.points
