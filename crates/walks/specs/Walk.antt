-- Request 08, "A walk that is lent and moved on": the walk, and the questions of a call. Assumes nothing.
use Rattle.std.specs.Prelude.{Bool, true, false, not, ◌&&◌, cond, List, [], ◌∷◌, ◌++◌, map, ◌≡◌, ℕ, eqb, leb}
use Rattle.std.proofs.Math.Option.{Option, none, some}
use Rattle.combinatorics.specs.Lists.{same}
use Rattle.grid_points.specs.Grid.{Grid, Point, bound}
use Rattle.place.specs.Links.{linked}
use Rattle.place.specs.Path.{same_simplex}
use Rattle.place.specs.Places.{Simplex, is_place, all_labelled}
use Rattle.place.specs.Problem.{Problem, label}
use Rattle.place.specs.Questions.{table_questions}
use Rattle.path_laws.specs.Demand.{SamePoints}
use Rattle.questions.specs.Questions.{Question, ask}

-- "A walk holds the grid, the start, the present place, the one before it and the places so far". As document 01's sets
-- are, both places are lists of points in rising order of coefficient sum. Request 10: "Runs and walks now carry their
-- place's labels", here one for each point of the present place in its order, and the walk has its labels read. Any
-- walk may be lent, so nothing is known of its parts.
pub record Walk : Type 0 where
  pub grid : Grid
  pub start : Point
  pub present : Simplex
  pub before : Option Simplex
  pub places : ℕ
  pub carried : List ℕ
  pub read : ℕ

-- the labels of the points of a place
abbrev pub labels_of : Problem → Simplex → List ℕ
labels_of p s = map (label p) s

-- "from {v} with 1 as its places so far"
abbrev pub walk_at_start : Problem → Walk
walk_at_start p = record {
  grid = p.grid;
  start = p.start;
  present = p.start ∷ [];
  before = none;
  places = 1;
  carried = labels_of p (p.start ∷ []);
  read = 1;
}

-- "Two walks are the same when all of these agree": places agree as sets of points
pub data SameBefore : Option Simplex → Option Simplex → Type 0 where
  none_before : SameBefore none none
  same_before : {a b : Simplex} → SamePoints a b → SameBefore (some a) (some b)

-- the five parts that request 08 names
pub record SameParts (w x : Walk) : Type 0 where
  pub grid : w.grid ≡ x.grid
  pub start : w.start ≡ x.start
  pub present : SamePoints w.present x.present
  pub before : SameBefore w.before x.before
  pub places : w.places ≡ x.places

-- and with them the two that request 10 adds
pub record SameWalk (w x : Walk) : Type 0 where
  pub parts : SameParts w x
  pub carried : w.carried ≡ x.carried
  pub read : w.read ≡ x.read

-- "The label table is lent with every call": the walk's own grid and start with that table
abbrev pub over : Walk → List ℕ → Problem
over w labels = record { grid = w.grid; start = w.start; labels = labels }

-- "the one before it" is "linked to it", so it is a place too; a walk may have none
abbrev pub came_by_link : Problem → Option Simplex → Simplex → Bool
came_by_link p none s = true
came_by_link p (some a) s = is_place p a && linked p a s

-- "it is {v}", "it has none before it", and not "only one" of two
abbrev pub is_start : Problem → Simplex → Bool
is_start p s = same_simplex s (p.start ∷ [])

abbrev pub has_none : Option Simplex → Bool
has_none none = true
has_none (some a) = false

abbrev pub both_or_neither : Bool → Bool → Bool
both_or_neither a b = cond a b (not b)

-- "20 when the present place is not a place, or the one before it not linked to it, or only one of "it is {v}" and "it
-- has none before it" holds, or the places so far are not from 1 to the bound": the four together. Request 10: "A lent
-- walk whose carried labels are not the table's, or whose labels read are not from 1 to its places, meets 20".
unfoldable pub is_walk : Problem → Walk → Bool
is_walk p w =
    is_place p w.present
    && came_by_link p w.before w.present
    && both_or_neither (is_start p w.present) (has_none w.before)
    && (leb 1 w.places && leb w.places (bound p.grid))
    && same eqb w.carried (labels_of p w.present)
    && (leb 1 w.read && leb w.read w.places)

-- "questions 1 to 7 are put again", 20 is "put after 7; then 16 when a point of the present place has label 0"
abbrev pub walk_questions : Walk → List ℕ → List Question
walk_questions w labels =
    let p = over w labels in
    table_questions p ++ (ask 20 (is_walk p w) ∷ ask 16 (all_labelled p w.present) ∷ [])
