-- What a call gives: the answer, the simplex of an end, and the place to which the walk is moved. Assumes nothing.
use Rattle.std.specs.Prelude.{List, [], ℕ, length}
use Rattle.combinatorics.specs.Lists.{concat_map}
use Rattle.combinatorics.specs.Front.{padded}
use Rattle.grid_points.specs.Grid.{Grid}
use Rattle.place.specs.Places.{Simplex}
use Rattle.walks.specs.Next.{Outcome, ended, moved, refused, rule_of}
use Rattle.walks.specs.Walk.{Walk, over}
use Rattle.walk_places.specs.Walks.{nowhere, stored}
use Rattle.walk_places.specs.declared.Place.{Place}
use Rattle.walk_ways.specs.declared.WalkAnswer.{WalkAnswer}
use Rattle.walk_ways.specs.declared.WalkAnswer.TheVariants.{Ended, Moved, Refused}
use Rattle.walk_ways.specs.declared.Next.{Next}

-- each case's number and values
abbrev pub answer_of : (Simplex → ℕ) → Outcome Simplex → WalkAnswer
answer_of rule (refused number) = Refused number
answer_of rule (ended kind block simplex) = Ended kind block (length simplex)
answer_of rule (moved s) = Moved (rule s)

abbrev pub outcome_numbers : Outcome Simplex → List ℕ
outcome_numbers (refused number) = []
outcome_numbers (ended kind block simplex) = concat_map (λ y. y) simplex
outcome_numbers (moved s) = []

abbrev pub place_after : Grid → Outcome Simplex → Place
place_after g (refused number) = nowhere
place_after g (ended kind block simplex) = nowhere
place_after g (moved s) = stored g s

-- what comes next, as a struct
unfoldable pub next_as : Walk → List ℕ → Outcome Simplex → Next
next_as w labels n = record {
  answer = answer_of (rule_of (over w labels) w.present) n;
  simplex = padded 256 (outcome_numbers n);
  place = place_after w.grid n;
}
