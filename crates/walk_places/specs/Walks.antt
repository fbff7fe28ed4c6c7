-- The walk that a struct holds, with its places. Assumes nothing.
use Rattle.std.specs.Prelude.{Bool, ◌&&◌, cond, List, [], ℕ, pred, ◌+◌, eqb, leb, length, take, replicate}
use Rattle.std.proofs.Math.Option.{Option, none, some}
use Rattle.combinatorics.specs.Front.{padded}
use Rattle.combinatorics.specs.Lists.{first_or, same}
use Rattle.grid_points.specs.Grid.{Grid, num_indices}
use Rattle.grid.specs.Made.{shape}
use Rattle.grid.specs.declared.Grid.{Grid as GridStruct}
use Rattle.place.specs.Places.{Simplex, order}
use Rattle.place.specs.Problem.{Problem}
use Rattle.walks.specs.Kept.{kept_points}
use Rattle.walks.specs.Walk.{Walk, over}
use Rattle.walk_places.specs.declared.Place.{Place}
use Rattle.walk_places.specs.declared.Walk.{Walk as WalkStruct}

-- a place with the first m numbers of the first point, and the first n indices of the order
abbrev pub kept_as : ℕ → List ℕ → List ℕ → ℕ → Place
kept_as m first order n = record { first = padded 16 (take m first); order = padded 16 (take n order); count = n + 1 }

-- no place
abbrev pub nowhere : Place
nowhere = record { first = replicate 16 0; order = replicate 16 0; count = 0 }

abbrev pub same_place : Place → Place → Bool
same_place a b = eqb a.count b.count && (same eqb a.first b.first && same eqb a.order b.order)

-- the place that a struct holds: of 1 to 16 points, with 0 behind the numbers of the first point and of the order.
-- Anything else holds no points
abbrev pub holds_numbers : ℕ → Place → Bool
holds_numbers m b = (leb 1 b.count && leb b.count 16) && same_place b
    (kept_as m b.first b.order (pred b.count))

abbrev pub holds_place : Grid → Place → Bool
holds_place g b = holds_numbers (num_indices g) b

unfoldable pub place_of : Grid → Place → Simplex
place_of g b = cond (holds_place g b) (kept_points g (take (num_indices g) b.first) (take (pred b.count) b.order))
    []

abbrev pub before_of : Grid → Place → Option Simplex
before_of g b = cond (same_place b nowhere) none (some (place_of g b))

-- the first n of six numbers; more than six are no grid's, and question 1 refuses that many
abbrev pub first_six : ℕ → List ℕ → List ℕ
first_six n xs = cond (leb n 6) (take n xs) (replicate n 0)

abbrev pub walk_grid : WalkStruct → Grid
walk_grid w = record { sizes = first_six w.blocks w.sizes; divisions = first_six w.blocks w.divisions }

-- "Runs and walks now carry their place's labels": one for each point of the present place, with 0 behind. With
-- anything else behind it carries none, which are no place's labels
unfoldable pub carried_of : WalkStruct → List ℕ
carried_of w = let own = take w.present.count w.carried in cond (same eqb w.carried (padded 16 own)) own []

-- "A walk holds the grid, the start, the present place, the one before it and the places so far", its place's labels
-- and the labels read: the walk that a struct holds, on a grid,
abbrev pub walk_on : Grid → WalkStruct → Walk
walk_on g w = record {
  grid = g;
  start = take (num_indices g) w.start;
  present = place_of g w.present;
  before = before_of g w.before;
  places = w.places;
  carried = carried_of w;
  read = w.labels_read;
}

-- and on its own
abbrev pub walk_of : WalkStruct → Walk
walk_of w = walk_on (walk_grid w) w

-- the walk's grid and start with the table
abbrev pub table_on : GridStruct → WalkStruct → List ℕ → Problem
table_on g w labels = over (walk_on (shape g) w) labels

-- a place, kept
unfoldable pub stored : Grid → Simplex → Place
stored g s = record { first = padded 16 (first_or [] s); order = padded 16 (order g s); count = length s }
