-- What the moving call gives: the answer, the simplex of an end, and the walk after it. Assumes nothing.
use Rattle.std.specs.Prelude.{cond, List, ℕ, ◌+◌}
use Rattle.combinatorics.specs.Front.{padded}
use Rattle.place.specs.LabelsRead.{point_came_in}
use Rattle.place.specs.Places.{Simplex}
use Rattle.place.specs.Problem.{Problem}
use Rattle.walks.specs.Next.{Outcome, ended, moved, refused, next_of, rule_of}
use Rattle.walks.specs.Walk.{labels_of, over}
use Rattle.walk_labels.specs.declared.Carried.{Carried}
use Rattle.walk_places.specs.Walks.{place_of, stored, walk_of}
use Rattle.walk_places.specs.declared.Place.{Place}
use Rattle.walk_places.specs.declared.Walk.{Walk as WalkStruct}
use Rattle.walk_ways.specs.Answers.{answer_of, outcome_numbers}
use Rattle.walk_calls.specs.declared.Call.{Call}
use Rattle.walk_calls.specs.declared.Told.{Told}

-- "each call moves it on by one place": the walk moved on to a place. What was the present place is then the one
-- before, it carries the labels of the next, and its labels read are one more if a point came in
abbrev pub walk_moved_to : WalkStruct → Place → Carried → WalkStruct
walk_moved_to w place on = record {
  places = w.places + 1;
  labels_read = w.labels_read + cond on.came_in 1 0;
  present = place;
  before = w.present;
  start = w.start;
  divisions = w.divisions;
  sizes = w.sizes;
  blocks = w.blocks;
  carried = on.labels;
}

-- the walk after a call, over the table of p: at an end and where it is refused as it was
abbrev pub struct_on : Problem → WalkStruct → Outcome Simplex → WalkStruct
struct_on p w (refused number) = w
struct_on p w (ended kind block simplex) = w
struct_on p w (moved s) = let g = p.grid in walk_moved_to w (stored g s)
    (record { labels = padded 16 (labels_of p s); came_in = point_came_in (place_of g w.present) s })

-- the answer, the simplex and the walk of the moving call
unfoldable pub call_of : WalkStruct → List ℕ → Call
call_of w labels =
    let n = next_of (walk_of w) labels in
    record {
      answer = answer_of (rule_of (over (walk_of w) labels) (walk_of w).present) n;
      simplex = padded 256 (outcome_numbers n);
      walk = struct_on (over (walk_of w) labels) w n;
    }

-- what a call tells besides the walk
abbrev pub told_in : Call → Told
told_in c = record { answer = c.answer; simplex = c.simplex }
