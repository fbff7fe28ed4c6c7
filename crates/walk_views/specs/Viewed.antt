-- The points of a walk's present place. Assumes nothing.
use Rattle.std.specs.Prelude.{true, cond, List, [], ◌∷◌, ◌++◌, ◌≡◌, ℕ, eqb, length, replicate, take}
use Rattle.combinatorics.specs.Lists.{concat_map}
use Rattle.combinatorics.specs.Front.{padded}
use Rattle.grid_points.specs.Grid.{Grid}
use Rattle.grid.specs.Made.{shape}
use Rattle.grid.specs.declared.Grid.{Grid as GridStruct}
use Rattle.arrays.specs.declared.holding.Held.{Held}
use Rattle.place.specs.Places.{Simplex, is_place}
use Rattle.place.specs.Problem.{Problem}
use Rattle.place.specs.Questions.{table_questions}
use Rattle.questions.specs.Questions.{Question, ask, first_no}
use Rattle.walk_recogniser.specs.Kept.{Seen}
use Rattle.walk_recogniser.specs.declared.Sets.{Sets}
use Rattle.rules.specs.Read.{mark_of}
use Rattle.walks.specs.Walk.{over}
use Rattle.walk_places.specs.Placing.{CanSee}
use Rattle.walk_ways.specs.Standing.{points_kept as points_by}
use Rattle.walk_places.specs.Walks.{walk_grid, place_of, table_on, walk_on}
use Rattle.walk_places.specs.declared.Walk.{Walk as WalkStruct}
use Rattle.walk_views.specs.declared.PlacePoints.{PlacePoints}

-- questions 1 to 7, and 20 "when the present place is not a place"
abbrev pub place_questions : Problem → Simplex → List Question
place_questions p s = table_questions p ++ (ask 20 (is_place p s) ∷ [])

abbrev pub no_points : ℕ → PlacePoints
no_points number = record { code = number; count = 0; numbers = replicate 256 0 }

-- "a place's points for the viewer", m numbers each in rising coefficient sum
unfoldable pub points_at : Grid → WalkStruct → PlacePoints
points_at g w =
    let s = place_of g w.present in
    record { code = 0; count = length s; numbers = padded 256 (concat_map (λ y. y) s) }

abbrev pub points_on : Grid → WalkStruct → List ℕ → PlacePoints
points_on g w labels =
    let n = first_no (place_questions (over (walk_on g w) labels) (place_of g w.present)) in
    cond (eqb n 0) (points_at g w) (no_points n)

abbrev pub points_of : WalkStruct → List ℕ → PlacePoints
points_of w labels = points_on (walk_grid w) w labels

-- the walk passes questions 1 to 7, and its present place is one, which is held
pub record CanPoint (g : GridStruct) (w : WalkStruct) (labels : List ℕ) (held : Held) (n : ℕ) (sets : Sets)
    : Type 0 where
  pub sees : CanSee g w labels n
  pub present : place_of (shape g) w.present ≡ points_by g held.first held.order n
  pub place : is_place (table_on g w labels) (points_by g held.first held.order n) ≡ true
  pub seen : Seen (table_on g w labels) (mark_of (table_on g w labels)) (take g.indices held.first) (take n held.order)
      held sets.t sets.u
