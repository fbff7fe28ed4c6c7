-- The calls on a walk as numbers in one struct. Assumes nothing.
use Rattle.std.specs.Prelude.{cond, List, ℕ, eqb, replicate}
use Rattle.end_kinds.specs.Numbers.{kind_number}
use Rattle.grid_points.specs.Grid.{lent}
use Rattle.walks.specs.Preview.{preview}
use Rattle.walk_calls.specs.Calls.{call_of}
use Rattle.walk_preview.specs.Changes.{no_change}
use Rattle.walk_preview.specs.Previews.{shown_as}
use Rattle.walk_preview.specs.declared.Change.{Change}
use Rattle.walk_views.specs.Begun.{begun_of}
use Rattle.walk_views.specs.Viewed.{points_of}
use Rattle.walk_places.specs.Walks.{walk_of}
use Rattle.walk_ways.specs.declared.WalkAnswer.{WalkAnswer}
use Rattle.walk_ways.specs.declared.WalkAnswer.TheVariants.{Ended, Moved, Refused}
use Rattle.walk_places.specs.declared.Walk.{Walk as WalkStruct}
use Rattle.walk_numbers.specs.declared.Answered.{Answered}

-- a refusal's number or 0, with points
abbrev pub unanswered : WalkStruct → ℕ → ℕ → List ℕ → Answered
unanswered walk number vertices simplex = record {
  walk = walk;
  vertices = vertices;
  fields = replicate 6 0;
  simplex = simplex;
  number = number;
  kind = 0;
  block = 0;
  rule = 0;
  map = 0;
}

-- each case's number and values
abbrev pub answered_by : WalkStruct → WalkAnswer → List ℕ → Change → Answered
answered_by walk (Refused number) simplex change = unanswered walk number 0 simplex
answered_by walk (Ended kind block vertices) simplex change = record {
  walk = walk;
  vertices = vertices;
  fields = change.fields;
  simplex = simplex;
  number = 0;
  kind = kind_number kind;
  block = block;
  rule = 0;
  map = change.map;
}
answered_by walk (Moved rule) simplex change = record {
  walk = walk;
  vertices = 0;
  fields = change.fields;
  simplex = simplex;
  number = 0;
  kind = 0;
  block = 0;
  rule = rule;
  map = change.map;
}

-- the moving call: the walk after it
unfoldable pub after_moving : Answered → List ℕ → Answered
after_moving s labels = let c = call_of s.walk labels in answered_by c.walk c.answer c.simplex no_change

-- the preview, which "changes nothing": the walk as it was
unfoldable pub after_showing : Answered → List ℕ → Answered
after_showing s labels =
    let p = shown_as (preview (walk_of s.walk) labels) in
    answered_by s.walk p.answer p.simplex p.change

-- the points of the present place
unfoldable pub after_pointing : Answered → List ℕ → Answered
after_pointing s labels = let p = points_of s.walk labels in unanswered s.walk p.code p.count p.numbers

-- the walk at {v}; with a refusal the walk as it was
unfoldable pub after_beginning : Answered → List ℕ → List ℕ → List ℕ → List ℕ → Answered
after_beginning s sizes divisions start labels =
    let b = begun_of (lent sizes divisions) start labels in
    unanswered (cond (eqb b.code 0) b.walk s.walk) b.code 0 (replicate 256 0)
