-- Request 09, "Showing the move before it is made". Assumes nothing.
use Rattle.std.specs.Prelude.{List, ℕ}
use Rattle.place.specs.Places.{Simplex}
use Rattle.place.specs.Problem.{Problem}
use Rattle.trail.specs.Change.{Change, change}
use Rattle.walks.specs.Next.{Outcome, on_move, next_of, rule_of}
use Rattle.walks.specs.Walk.{Walk, over}

-- "all that the trail's record of that move would hold": the points and indices that change, where a list is empty if
-- the record has no such field, and the rule
pub record Move : Type 0 where
  pub change : Change
  pub rule : ℕ

abbrev pub move_to : Problem → Simplex → Simplex → Move
move_to p a s = record { change = change p a s; rule = rule_of p a s }

-- "The preview names all that the trail's record of that move would hold", "refusals and the end included"
unfoldable pub preview : Walk → List ℕ → Outcome Move
preview w labels = on_move (move_to (over w labels) w.present) (next_of w labels)

-- "what the moving call does to a copy of the walk", seen from outside: its answer, and how the copy's present place
-- differs from the walk's
abbrev pub seen : Walk → List ℕ → Outcome ℕ → Walk → Outcome Move
seen w labels answer copy =
    on_move (λ rule. record { change = change (over w labels) w.present copy.present; rule = rule }) answer
