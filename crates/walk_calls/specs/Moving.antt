-- What the functions of the moving call ask and give. Assumes nothing.
use Rattle.std.specs.Prelude.{true, false, List, [], ◌≡◌, ℕ, ◌<◌, length, get_or, replicate}
use Rattle.grid_points.specs.Grid.{Grid, Point, at, same_point}
use Rattle.grid.specs.Made.{IsMade, shape}
use Rattle.grid_points.specs.Questions.{grid_questions}
use Rattle.grid.specs.declared.Grid.{Grid as GridStruct}
use Rattle.grid.specs.declared.Made.{Made}
use Rattle.place.specs.LabelsRead.{point_came_in}
use Rattle.place.specs.Places.{Simplex}
use Rattle.place.specs.Problem.{Problem, label}
use Rattle.questions.specs.Questions.{first_no}
use Rattle.walks.specs.Next.{next_of, rule_of}
use Rattle.walks.specs.Walk.{labels_of, over}
use Rattle.walk_labels.specs.declared.Carried.{Carried}
use Rattle.combinatorics.specs.Front.{padded}
use Rattle.combinatorics.specs.Lists.{is_in}
use Rattle.walk_places.specs.Walks.{place_of, table_on, walk_on}
use Rattle.walk_ways.specs.Answers.{answer_of, outcome_numbers}
use Rattle.walk_ways.specs.declared.WalkAnswer.TheVariants.{Refused}
use Rattle.walk_calls.specs.Calls.{struct_on}
use Rattle.walk_calls.specs.declared.Call.{Call}
use Rattle.walk_places.specs.declared.Walk.{Walk as WalkStruct}

-- what `Grid::new` gives of a walk's grid
pub record GridIn (g : Grid) (r : Made) : Type 0 where
  pub code : r.code ≡ first_no (grid_questions g)
  pub is : r.code ≡ 0 → IsMade r.grid × (shape r.grid ≡ g)

-- A full table: it has the labels that the walk carries for the points of its place, and for a point that comes in the
-- label that the lent table has. Of the lent table nothing else is known, so that only a point that comes in can be
-- looked up there.
pub record Completes (g : GridStruct) (w : WalkStruct) (labels : List ℕ) (there : Simplex)
    (full : List ℕ) : Type 0 where
  pub carried : (i : ℕ) → (let here = place_of (shape g) w.present in
      i < length here → at w.carried i ≡ label (table_on g w full) (get_or here i []))
  pub comes_in : (y : Point) → is_in same_point y there ≡ true → is_in same_point y (place_of (shape g) w.present) ≡ false
      → label (table_on g w labels) y ≡ label (table_on g w full) y

-- the labels of the next place, with 0 behind, and whether one of its points came in
pub record CarriesTo (p : Problem) (here there : Simplex) (r : Carried) : Type 0 where
  pub labels : r.labels ≡ padded 16 (labels_of p there)
  pub came_in : r.came_in ≡ point_came_in here there

abbrev pub unmoved_as : WalkStruct → ℕ → Call
unmoved_as w number = record { answer = Refused number; simplex = replicate 256 0; walk = w }

-- the call on the walk's grid
unfoldable pub call_on : Grid → WalkStruct → List ℕ → Call
call_on g w labels =
    let n = next_of (walk_on g w) labels in
    record {
      answer = answer_of (rule_of (over (walk_on g w) labels) (place_of g w.present)) n;
      simplex = padded 256 (outcome_numbers n);
      walk = struct_on (over (walk_on g w) labels) w n;
    }
