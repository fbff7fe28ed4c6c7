-- The counts of a walk in range, and a walk whose present place is kept rightly. Assumes nothing.
use Rattle.std.specs.Prelude.{Bool, ◌&&◌, List, ◌≡◌, ℕ, suc, ◌≤◌, leb}
use Rattle.grid_points.specs.Grid.{Grid, bound}
use Rattle.grid.specs.Made.{IsMade, shape}
use Rattle.grid.specs.declared.Grid.{Grid as GridStruct}
use Rattle.place.specs.Questions.{table_questions}
use Rattle.questions.specs.Questions.{first_no}
use Rattle.walk_ways.specs.Standing.{points_kept}
use Rattle.walk_places.specs.Walks.{place_of, table_on}
use Rattle.walk_places.specs.declared.Walk.{Walk as WalkStruct}

-- the places so far are "from 1 to the bound", the labels read "from 1 to its places"
abbrev pub counts_in_range : Grid → ℕ → ℕ → Bool
counts_in_range g places read = (leb 1 places && leb places (bound g)) && (leb 1 read && leb read places)

-- the walk passes questions 1 to 7, its places so far and its labels read are in range, and its present place is kept
-- rightly
pub record CanStand (g : GridStruct) (w : WalkStruct) (labels : List ℕ) (n : ℕ) : Type 0 where
  pub made : IsMade g
  pub asked : first_no (table_questions (table_on g w labels)) ≡ 0
  pub few : n ≤ 15
  pub present : place_of (shape g) w.present ≡ points_kept g w.present.first w.present.order n
  pub count : w.present.count ≡ suc n
  pub some : 1 ≤ w.places
  pub most : w.places ≤ bound (shape g)
  pub read : 1 ≤ w.labels_read
  pub read_few : w.labels_read ≤ w.places
