-- Request 09: what the preview gives. Assumes nothing.
use Rattle.std.specs.Prelude.{List, ◌≡◌, ℕ, length, replicate}
use Rattle.combinatorics.specs.Lists.{concat_map}
use Rattle.combinatorics.specs.Front.{padded}
use Rattle.grid_points.specs.Grid.{Grid}
use Rattle.grid.specs.Made.{IsMade, shape}
use Rattle.grid.specs.declared.Grid.{Grid as GridStruct}
use Rattle.walks.specs.Next.{Outcome, ended, moved, refused, rule_of}
use Rattle.walks.specs.Preview.{Move, preview}
use Rattle.walks.specs.Walk.{over}
use Rattle.walk_places.specs.Placing.{GoesTo}
use Rattle.walk_places.specs.Walks.{walk_grid, walk_of, walk_on}
use Rattle.walk_ways.specs.declared.WalkAnswer.TheVariants.{Ended, Moved, Refused}
use Rattle.walk_places.specs.declared.Place.{Place}
use Rattle.walk_places.specs.declared.Walk.{Walk as WalkStruct}
use Rattle.walk_preview.specs.Changes.{changed_of, no_change}
use Rattle.walk_preview.specs.declared.Change.{Change as ChangeStruct}
use Rattle.walk_preview.specs.declared.Shown.{Shown}

-- "The preview names all that the trail's record of that move would hold", "refusals and the end included"
abbrev pub shown_as : Outcome Move → Shown
shown_as (refused number) = record { answer = Refused number; simplex = replicate 256 0; change = no_change }
shown_as (ended kind block simplex) = record {
  answer = Ended kind block (length simplex);
  simplex = padded 256 (concat_map (λ y. y) simplex);
  change = no_change;
}
shown_as (moved m) = record { answer = Moved m.rule; simplex = replicate 256 0; change = changed_of m.change }

-- what changes by the move
abbrev pub change_shown : Outcome Move → ChangeStruct
change_shown o = (shown_as o).change

abbrev pub change_in : WalkStruct → List ℕ → ChangeStruct
change_in w labels = change_shown (preview (walk_of w) labels)

abbrev pub change_on : GridStruct → WalkStruct → List ℕ → ChangeStruct
change_on g w labels = change_shown (preview (walk_on (shape g) w) labels)

-- a call moves the walk, on this grid, to the next place by this rule
pub record Moves (g : Grid) (w : WalkStruct) (labels : List ℕ) (next : Place) (rule : ℕ) : Type 0 where
  pub goes : GoesTo g w labels next
  pub by_rule : rule ≡ rule_of (over (walk_on g w) labels) (walk_on g w).present goes.to

abbrev pub MovesTo : WalkStruct → List ℕ → Place → ℕ → Type 0
MovesTo w labels next rule = Moves (walk_grid w) w labels next rule

pub record CanShow (g : GridStruct) (w : WalkStruct) (labels : List ℕ) (next : Place) (rule : ℕ) : Type 0 where
  pub made : IsMade g
  pub moves : Moves (shape g) w labels next rule
