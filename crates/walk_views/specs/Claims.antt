-- What requests 08, 10 and 14 say of calls from the walk at {v} on, of the structs that they leave, in the order of the
-- customer's sentences. Assumes nothing.
use Rattle.std.specs.Prelude.{List, [], ◌∷◌, ◌++◌, ◌≡◌, ℕ, suc, pred, ◌+◌, ◌-◌, ◌≤◌, ◌<◌}
use Rattle.std.proofs.Math.Option.{some}
use Rattle.combinatorics.specs.Front.{padded}
use Rattle.combinatorics.specs.Lists.{concat_map}
use Rattle.end_kinds.specs.declared.Kind.{Kind}
use Rattle.grid_points.specs.Grid.{Grid, Point, bound}
use Rattle.path_laws.specs.Demand.{place_at}
use Rattle.place.specs.Path.{path, path_length, ended as run_ended, unknown, answer}
use Rattle.place.specs.Places.{Simplex}
use Rattle.place.specs.Problem.{with_labels}
use Rattle.trail.specs.Record.{trail_of}
use Rattle.trail.specs.Trail.{reading, reading_of}
use Rattle.walks.specs.Claims.{walk_at}
use Rattle.walks.specs.Next.{moved, rule_of}
use Rattle.walks.specs.Preview.{move_to, preview}
use Rattle.walk_calls.specs.Calls.{call_of}
use Rattle.walk_calls.specs.Claims.{left_after}
use Rattle.walk_calls.specs.Moving.{unmoved_as}
use Rattle.walk_places.specs.Walks.{walk_of}
use Rattle.walk_places.specs.declared.Walk.{Walk as WalkStruct}
use Rattle.walk_ways.specs.declared.WalkAnswer.TheVariants.{Ended, Moved}
use Rattle.walk_views.specs.Begun.{begun_of, begun_on}
use Rattle.walk_views.specs.Turned.{turned_as}

-- the struct after i calls "over one table, made from {v} with 1 as its places so far"
abbrev pub left_from : Grid → Point → List ℕ → ℕ → WalkStruct
left_from g v labels i = left_after i (begun_of g v labels).walk labels

-- the struct after i calls, turned to face the place to which the next call moves it
abbrev pub turned_at : Grid → Point → List ℕ → ℕ → WalkStruct
turned_at g v labels i = turned_as (left_from g v labels i) (left_from g v labels (suc i)).present

-- "agree up to the end with one run", of a grid, a start and a table that questions 1 to 7 accept
pub record CallsFollowRun (g : Grid) (v : Point) (labels : List ℕ) : Type 0 where
  -- the walk at {v} is not refused,
  pub begins : (begun_of g v labels).code ≡ 0
  -- call by call the struct holds the places of the path, one after the other, with the one before, the places so far,
  -- the place's labels and the labels read,
  pub stands : (i : ℕ) → (let p = begun_on g v labels in
      i < path_length p → walk_of (left_from g v labels i) ≡ walk_at p i)
  -- "and reports the rule",
  pub moves : (i : ℕ) → (let p = begun_on g v labels in
      let s = (path p).visited in
      suc i < path_length p
      → (call_of (left_from g v labels i) labels).answer ≡ Moved (rule_of p (place_at s i) (place_at s (suc i))))
  -- which the preview shows before
  pub shows : (i : ℕ) → (let p = begun_on g v labels in
      let s = (path p).visited in
      suc i < path_length p
      → preview (walk_of (left_from g v labels i)) labels ≡ moved (move_to p (place_at s i) (place_at s (suc i))))
  -- "at an end the call gives its kind, block and simplex", those of the run, "and the walk is unchanged"; its places
  -- and its labels read are the run's
  pub ends : (budget n read : ℕ) (kind : Kind) (block vertices : ℕ) (simplex : Simplex)
      → answer (begun_on g v labels) budget ≡ run_ended n read kind block vertices simplex
      → (let w = left_from g v labels (pred n) in
      (w.places ≡ n) × (w.labels_read ≡ read)
      × (call_of w labels
      ≡ record {
        answer = Ended kind block vertices;
        simplex = padded 256 (concat_map (λ y. y) simplex);
        walk = w;
      }))
  -- "A run, a walk lent from {v} on and a rebuilt trail of the same path agree on it", the labels read
  pub agree : (budget n read : ℕ) (kind : Kind) (block vertices : ℕ) (simplex : Simplex)
      → answer (begun_on g v labels) budget ≡ run_ended n read kind block vertices simplex → (others rest : List ℕ)
      → (let p = begun_on g v labels in
      let q = with_labels p others in
      let w = left_from g v labels (pred n) in
      (w.labels_read ≡ read)
      × (reading q (trail_of p (path p).visited ++ rest) n ≡ reading_of q read (some (walk_of w).present)))
  -- where the run meets 16 the call does, with one place more than those visited before, and leaves the walk
  pub gap : (budget n position : ℕ) → answer (begun_on g v labels) budget ≡ unknown n position
      → (let w = left_from g v labels n in (w.places ≡ suc n) × (call_of w labels ≡ unmoved_as w 16))
  -- Request 14, "moving by links and never to the place just left", by calls: a walk that is turned, at any place
  -- before the last, "visits the same places in opposite order" as long as its places so far stay within the bound,
  pub home : (i j : ℕ) → (let p = begun_on g v labels in
      let s = (path p).visited in
      suc i < path_length p → j ≤ i → i + j ≤ bound g
      → let w = left_after j (turned_at g v labels i) labels in
      ((walk_of w).present ≡ place_at s (i - j)) × ((walk_of w).before ≡ some (place_at s (suc (i - j))))
      × (w.places ≡ suc i + j))
  -- "and stops at {v}": there the next call gives 20
  pub stops : (i : ℕ) → suc i < path_length (begun_on g v labels) → i + i ≤ bound g
      → (let w = left_after i (turned_at g v labels i) labels in
      ((walk_of w).present ≡ v ∷ []) × (call_of w labels ≡ unmoved_as w 20))
