-- What request 09 says of the preview, against the moving call on a copy of the walk. Assumes nothing.
use Rattle.std.specs.Prelude.{cond, List, [], ◌∷◌, ◌≡◌, ℕ}
use Rattle.combinatorics.specs.Lists.{concat_map}
use Rattle.grid_points.specs.Grid.{at}
use Rattle.rules.specs.Mask.{bit}
use Rattle.trail.specs.Change.{change}
use Rattle.trail.specs.Record.{bytes16, encoded, record_of}
use Rattle.walks.specs.Preview.{preview}
use Rattle.walks.specs.Walk.{over}
use Rattle.walk_calls.specs.Calls.{call_of}
use Rattle.walk_calls.specs.declared.Call.{Call}
use Rattle.walk_places.specs.Walks.{walk_of}
use Rattle.walk_places.specs.declared.Walk.{Walk as WalkStruct}
use Rattle.walk_preview.specs.Changes.{changed_of, no_change}
use Rattle.walk_preview.specs.Previews.{shown_as}
use Rattle.walk_preview.specs.declared.Change.{Change as ChangeStruct}
use Rattle.walk_preview.specs.declared.Shown.{Shown}
use Rattle.walk_ways.specs.declared.WalkAnswer.{WalkAnswer}
use Rattle.walk_ways.specs.declared.WalkAnswer.TheVariants.{Ended, Moved, Refused}

-- "what the moving call does to a copy of the walk", seen from outside: its answer and simplex, and, where it has moved
-- the copy, how the copy's present place differs from the walk's
abbrev pub change_seen : WalkStruct → List ℕ → WalkStruct → WalkAnswer → ChangeStruct
change_seen w labels copy (Refused number) = no_change
change_seen w labels copy (Ended kind block vertices) = no_change
change_seen w labels copy (Moved rule) =
    changed_of (change (over (walk_of w) labels) (walk_of w).present (walk_of copy).present)

abbrev pub seen_as : WalkStruct → List ℕ → Call → Shown
seen_as w labels c = record {
  answer = c.answer;
  simplex = c.simplex;
  change = change_seen w labels c.walk c.answer;
}

-- the bytes of the record that the fields shown make: those whose bit stands in the map, and the rule
abbrev pub field_shown : ChangeStruct → ℕ → List ℕ
field_shown c b = cond (bit c.map b) (at c.fields b ∷ []) []

abbrev pub record_shown : ChangeStruct → ℕ → List ℕ
record_shown c rule = encoded (concat_map bytes16 (field_shown c 0) ∷ concat_map bytes16 (field_shown c 1) ∷ field_shown c 2
    ∷ field_shown c 3 ∷ field_shown c 4 ∷ field_shown c 5 ∷ (rule ∷ []) ∷ [])

-- of every struct and table
pub record PreviewShows (w : WalkStruct) (labels : List ℕ) : Type 0 where
  -- "It equals what the moving call does to a copy of the walk, refusals and the end included"
  pub copy : shown_as (preview (walk_of w) labels) ≡ seen_as w labels (call_of w labels)
  -- "The preview names all that the trail's record of that move would hold": its bytes, from what is shown
  pub named : (rule : ℕ) → (let s = shown_as (preview (walk_of w) labels) in s.answer ≡ Moved rule
      → record_shown s.change rule
      ≡ record_of (over (walk_of w) labels) (walk_of w).present (walk_of (call_of w labels).walk).present)
