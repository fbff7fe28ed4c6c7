-- `after_moving` meets its contract. Assumes nothing.
use mathlib.Core.Path.{◌∙◌}
use Rattle.walk_numbers.specs.Answered.{after_moving}
use Rattle.walk_numbers.proofs.after_moving.Goals as goal

pub returns : goal.returns
unfolding after_moving
returns c = c.answered_by.ensures ∙ rw
    (c.moved-answer.ensures, c.none.ensures)
