-- Request 08: what comes next on a walk, and the call that moves it on. Assumes nothing.
use Rattle.std.specs.Prelude.{cond, List, [], ◌∷◌, ℕ, zero, suc, ◌+◌, eqb}
use Rattle.std.proofs.Math.Option.{some}
use Rattle.combinatorics.specs.Lists.{first_or}
use Rattle.end_kinds.specs.declared.Kind.{Kind}
use Rattle.place.specs.Ends.{Way, stop, link}
use Rattle.place.specs.LabelsRead.{point_came_in}
use Rattle.place.specs.Path.{ways_on}
use Rattle.place.specs.Places.{Simplex}
use Rattle.place.specs.Problem.{Problem}
use Rattle.questions.specs.Questions.{first_no}
use Rattle.trail.specs.Change.{change, rules}
use Rattle.walks.specs.Walk.{Walk, labels_of, over, walk_questions}

-- What a call gives: a refusal's number; or an end's "kind, block and simplex", the block counted from 1; or what it
-- says of a move.
pub data Outcome (A : Type 0) : Type 0 where
  refused : (number : ℕ) → Outcome A
  ended : (kind : Kind) (block : ℕ) (simplex : Simplex) → Outcome A
  moved : A → Outcome A

-- the same with something else said of a move
abbrev pub on_move : {A B : Type 0} → (A → B) → Outcome A → Outcome B
on_move f (refused number) = refused number
on_move f (ended kind block simplex) = ended kind block simplex
on_move f (moved x) = moved (f x)

-- by the one way on; there is one (`one_way_on`), so the number 0, which no question has, is never given
abbrev pub by_way : List Way → Outcome Simplex
by_way [] = refused 0
by_way (stop e ∷ ws) = ended e.kind (suc e.block) e.simplex
by_way (link s ∷ ws) = moved s

-- What comes next, with the place to which a call moves: the moving call and the preview both show it.
unfoldable pub next_of : Walk → List ℕ → Outcome Simplex
next_of w labels =
    let n = first_no (walk_questions w labels) in
    cond (eqb n 0) (by_way (ways_on (over w labels) w.before w.present)) (refused n)

-- the rule of the move from a place to another, as the trail numbers it
unfoldable pub rule_of : Problem → Simplex → Simplex → ℕ
rule_of p a s = first_or 0 (rules (change p a s))

-- "each call moves it on by one place and reports the rule"
unfoldable pub move_answer : Walk → List ℕ → Outcome ℕ
move_answer w labels = on_move (rule_of (over w labels) w.present) (next_of w labels)

-- the walk moved on to a place: what was the present place is then the one before. Request 10: it carries the place's
-- labels, and the labels read are "1 plus the moves by which a point came in"
abbrev pub moved_to : Problem → Walk → Simplex → Walk
moved_to p w s = record {
  grid = w.grid;
  start = w.start;
  present = s;
  before = some w.present;
  places = suc w.places;
  carried = labels_of p s;
  read = w.read + cond (point_came_in w.present s) 1 0;
}

-- "at an end .. the walk is unchanged"; 20 and 16 "return only their number and leave the walk unchanged", and so do 1
-- to 7
abbrev pub walk_after : Problem → Walk → Outcome Simplex → Walk
walk_after p w (refused number) = w
walk_after p w (ended kind block simplex) = w
walk_after p w (moved s) = moved_to p w s

unfoldable pub move_walk : Walk → List ℕ → Walk
move_walk w labels = walk_after (over w labels) w (next_of w labels)

-- the walk after n calls "over one table"
abbrev pub after_calls : ℕ → Walk → List ℕ → Walk
after_calls zero w labels = w
after_calls (suc n) w labels = move_walk (after_calls n w labels) labels
