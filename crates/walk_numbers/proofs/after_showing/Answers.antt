-- `after_showing` meets its contract. Assumes nothing.
use mathlib.Core.Path.{◌∙◌}
use Rattle.walk_numbers.specs.Answered.{after_showing}
use Rattle.walk_numbers.proofs.after_showing.Goals as goal

pub returns : goal.returns
unfolding after_showing
returns c = c.answered_by.ensures ∙ rw c.preview-answer.ensures
