-- What requests 08, 09, 10 and 14 say of calls, in the order of the customer's sentences. Assumes nothing.
use Rattle.std.specs.Prelude.{true, cond, List, [], ◌∷◌, ◌++◌, ◌↔◌, ◌⊎◌, ◌≡◌, ℕ, suc, pred, ◌+◌, ◌-◌, ◌≤◌, ◌<◌, length}
use Rattle.std.proofs.Math.Option.{some}
use Rattle.combinatorics.specs.Lists.{is_in}
use Rattle.end_kinds.specs.declared.Kind.{Kind}
use Rattle.grid_points.specs.Grid.{Point, same_point, bound}
use Rattle.path_laws.specs.Demand.{Accepted, place_at, left_at}
use Rattle.place.specs.LabelsRead.{came_in, point_came_in}
use Rattle.place.specs.Path.{path, path_length, ways_on, ended as run_ended, unknown, answer}
use Rattle.place.specs.Places.{Simplex}
use Rattle.place.specs.Problem.{Problem, label, with_labels}
use Rattle.questions.specs.Questions.{first_no}
use Rattle.trail.specs.Change.{change, ByRule}
use Rattle.trail.specs.Record.{fields, encoded, record_of, trail_of}
use Rattle.trail.specs.Trail.{reading, reading_of}
use Rattle.walks.specs.Next.{refused, ended, moved, next_of, rule_of, move_answer, move_walk, after_calls}
use Rattle.walks.specs.Preview.{Move, move_to, preview, seen}
use Rattle.walks.specs.Walk.{Walk, SameParts, SameWalk, walk_at_start, labels_of, over, walk_questions}

-- the walk at the i-th place of the path, from 0
abbrev pub walk_at : Problem → ℕ → Walk
walk_at p i = let s = (path p).visited in record {
  grid = p.grid;
  start = p.start;
  present = place_at s i;
  before = left_at s i;
  places = suc i;
  carried = labels_of p (place_at s i);
  read = suc (came_in s i);
}

-- a walk at the i-th place that faces back: the one before it is the next on the path
abbrev pub facing_back : Problem → ℕ → ℕ → ℕ → Walk
facing_back p i n read = let s = (path p).visited in record {
  grid = p.grid;
  start = p.start;
  present = place_at s i;
  before = some (place_at s (suc i));
  places = n;
  carried = labels_of p (place_at s i);
  read = read;
}

-- the walk after i calls "over one table, made from {v} with 1 as its places so far"
abbrev pub called : Problem → ℕ → Walk
called p i = after_calls i (walk_at_start p) p.labels

-- "agree up to the end with one run", of an accepted table
pub record CallsFollow (p : Problem) : Type 0 where
  -- they stand at the places of the path, one after the other, count them, carry their labels and count the labels read
  pub stands : (i : ℕ) → i < path_length p → called p i ≡ walk_at p i
  -- "each call moves it on by one place and reports the rule",
  pub moves : (i : ℕ) → suc i < path_length p
      → move_answer (called p i) p.labels
      ≡ moved (rule_of p (place_at (path p).visited i) (place_at (path p).visited (suc i)))
  -- which the preview shows before: the record of the move
  pub shows : (i : ℕ) → suc i < path_length p
      → let a = place_at (path p).visited i in
      let b = place_at (path p).visited (suc i) in
      preview (called p i) p.labels ≡ moved (move_to p a b)
  -- "at an end the call gives its kind, block and simplex", those of the run, and its places and labels read are
  -- the run's,
  pub ends : (budget n read : ℕ) (kind : Kind) (block vertices : ℕ) (simplex : Simplex)
      → answer p budget ≡ run_ended n read kind block vertices simplex
      → ((called p (pred n)).places ≡ n) × ((called p (pred n)).read ≡ read)
      × (move_answer (called p (pred n)) p.labels ≡ ended kind block simplex)
  -- Request 10: "A run, a walk lent from {v} on and a rebuilt trail of the same path agree on it", the labels read. The
  -- reader is given no table, so it may be any, and so may what stands behind the trail
  pub agree : (budget n read : ℕ) (kind : Kind) (block vertices : ℕ) (simplex : Simplex)
      → answer p budget ≡ run_ended n read kind block vertices simplex → (others rest : List ℕ)
      → let w = called p (pred n) in let q = with_labels p others in
      (w.read ≡ read)
      × (reading q (trail_of p (path p).visited ++ rest) n ≡ reading_of q read (some w.present))
  -- and where the run meets 16 the walk does, with one place more than those visited before
  pub gap : (budget n position : ℕ) → answer p budget ≡ unknown n position
      → ((called p n).places ≡ suc n) × (move_answer (called p n) p.labels ≡ refused 16)
  -- request 14, "moving by links and never to the place just left", by calls: between {v} and the last place a walk
  -- that faces back is moved to the place before, and faces back there
  pub back : (i n read : ℕ) → suc (suc i) < path_length p → n ≤ bound p.grid → 1 ≤ read → read ≤ n
      → let s = (path p).visited in
      move_walk (facing_back p (suc i) n read) p.labels
      ≡ facing_back p i (suc n) (read + cond (point_came_in (place_at s (suc i)) (place_at s i)) 1 0)
  -- so that, as long as its places so far stay within the bound, it "visits the same places in opposite order",
  pub home : (i j n read : ℕ) → suc i < path_length p → j ≤ i → n + j ≤ suc (bound p.grid) → 1 ≤ read → read ≤ n
      → let s = (path p).visited in let w = after_calls j (facing_back p i n read) p.labels in
      (w.present ≡ place_at s (i - j)) × (w.before ≡ some (place_at s (suc (i - j)))) × (w.places ≡ n + j)
  -- "and stops at {v}"
  pub stops : (i n read : ℕ) → suc i < path_length p → n + i ≤ suc (bound p.grid) → 1 ≤ read → read ≤ n
      → let w = after_calls i (facing_back p i n read) p.labels in
      (w.present ≡ p.start ∷ []) × (move_answer w p.labels ≡ refused 20)

-- of every walk and table: wherever the walk stands, and whichever way it faces
pub record Calls (w : Walk) (labels : List ℕ) : Type 0 where
  -- a call is refused exactly by the first of questions 1 to 7, 20 and 16 that is answered no,
  pub refuses : (number : ℕ)
      → (move_answer w labels ≡ refused number) ↔ ((first_no (walk_questions w labels) ≡ number) × (0 < number))
  -- and where none is, exactly one way leads on
  pub one : first_no (walk_questions w labels) ≡ 0 → length (ways_on (over w labels) w.before w.present) ≡ 1
  -- "reports the rule": that of the seven by which the place has changed
  pub rule : (r : ℕ) → move_answer w labels ≡ moved r
      → ByRule (change (over w labels) w.present (move_walk w labels).present) r
  -- A walk that has been moved meets 20 at the next call over the table exactly if it is back on {v} or its places so
  -- far are above the bound,
  pub next : (r : ℕ) → move_answer w labels ≡ moved r → let x = move_walk w labels in
      (move_answer x labels ≡ refused 20) ↔ ((x.present ≡ x.start ∷ []) ⊎ (bound x.grid < x.places))
  -- "A walk moved back onto {v} meets 20 at the next call", whichever table is lent with it
  pub back : (r : ℕ) → move_answer w labels ≡ moved r → (move_walk w labels).present ≡ w.start ∷ [] → (others : List ℕ)
      → Accepted (over w others) → move_answer (move_walk w labels) others ≡ refused 20
  -- a call looks at the labels of the present place's points alone, but for questions 6 and 7: over a table with the
  -- same labels there the same comes next
  pub local : (others : List ℕ) → Accepted (over w labels) → Accepted (over w others)
      → ((y : Point) → is_in same_point y w.present ≡ true → label (over w others) y ≡ label (over w labels) y)
      → next_of w others ≡ next_of w labels
  -- the preview "equals what the moving call does to a copy of the walk, refusals and the end included"
  pub shown : preview w labels ≡ seen w labels (move_answer w labels) (move_walk w labels)
  -- it "names all that the trail's record of that move would hold": the fields of its rule and no others, in bytes
  -- the record
  pub named : (m : Move) → preview w labels ≡ moved m
      → ByRule m.change m.rule
      × (encoded (fields m.change) ≡ record_of (over w labels) w.present (move_walk w labels).present)
  -- "at an end .. the walk is unchanged", request 14, "calls at an end move nothing"; nor do refusals, however often it
  -- is called
  pub still : (kind : Kind) (block : ℕ) (simplex : Simplex) → move_answer w labels ≡ ended kind block simplex → (n : ℕ)
      → after_calls n w labels ≡ w
  pub unchanged : (number : ℕ) → move_answer w labels ≡ refused number → (n : ℕ) → after_calls n w labels ≡ w
  -- "Over one label table, two different walks that a call moves on are never moved to the same walk"
  pub once : (x : Walk) (r q : ℕ) → move_answer w labels ≡ moved r → move_answer x labels ≡ moved q
      → SameWalk (move_walk w labels) (move_walk x labels) → w ≡ x
  -- also where walks are the same by the five parts of request 08, before and after the call
  pub once_parts : (x : Walk) (r q : ℕ) → move_answer w labels ≡ moved r → move_answer x labels ≡ moved q
      → SameParts (move_walk w labels) (move_walk x labels) → SameParts w x
