-- What is asked and told of a place that a walk keeps, and of the one to which it is moved. Assumes nothing.
use Rattle.std.specs.Prelude.{true, List, map, ◌≡◌, ℕ, suc, ◌≤◌, ◌<◌, eqb, length, take}
use Rattle.combinatorics.specs.Lists.{is_in}
use Rattle.grid_points.specs.Grid.{Grid, is_grid_point, num_indices}
use Rattle.grid.specs.Made.{IsMade, shape}
use Rattle.grid.specs.declared.Grid.{Grid as GridStruct}
use Rattle.place.specs.Places.{Simplex, set_t, set_u}
use Rattle.place.specs.Problem.{Problem}
use Rattle.place.specs.Questions.{table_questions}
use Rattle.questions.specs.Questions.{first_no}
use Rattle.walk_recogniser.specs.Pieces.{bare_mark}
use Rattle.rules.specs.Mask.{bit}
use Rattle.walks.specs.Next.{moved, next_of}
use Rattle.walk_places.specs.declared.Both.{Both}
use Rattle.walk_places.specs.Walks.{stored, table_on, walk_on}
use Rattle.walk_places.specs.declared.Place.{Place}
use Rattle.walk_places.specs.declared.Walk.{Walk as WalkStruct}

-- the walk's start is on the grid
pub record CanPlace (g : GridStruct) (w : WalkStruct) (n : ℕ) : Type 0 where
  pub made : IsMade g
  pub start : is_grid_point (shape g) (take (num_indices (shape g)) w.start) ≡ true
  pub few : n ≤ 15

-- the walk passes questions 1 to 7
pub record CanSee (g : GridStruct) (w : WalkStruct) (labels : List ℕ) (n : ℕ) : Type 0 where
  pub made : IsMade g
  pub asked : first_no (table_questions (table_on g w labels)) ≡ 0
  pub few : n ≤ 15

-- a call moves the walk, on this grid, to this place
pub record GoesTo (g : Grid) (w : WalkStruct) (labels : List ℕ) (next : Place) : Type 0 where
  pub to : Simplex
  pub moves : next_of (walk_on g w) labels ≡ moved to
  pub place : next ≡ stored g to

-- the positions of the points of two places, and their sets T and U as masks
pub record BothMarked (p : Problem) (here there : Simplex) (r : Both) : Type 0 where
  pub few : r.n ≤ 15
  pub from_long : length r.from ≡ 16
  pub from : take (suc r.n) r.from ≡ map (bare_mark p.grid) here
  pub in_t : (k : ℕ) → k < 16 → bit r.t k ≡ is_in eqb k (set_t p here)
  pub in_u : (k : ℕ) → k < 16 → bit r.u k ≡ is_in eqb k (set_u p.grid here)
  pub few_next : r.k ≤ 15
  pub onto_long : length r.onto ≡ 16
  pub onto : take (suc r.k) r.onto ≡ map (bare_mark p.grid) there
  pub next_t : (k : ℕ) → k < 16 → bit r.t2 k ≡ is_in eqb k (set_t p there)
  pub next_u : (k : ℕ) → k < 16 → bit r.u2 k ≡ is_in eqb k (set_u p.grid there)
