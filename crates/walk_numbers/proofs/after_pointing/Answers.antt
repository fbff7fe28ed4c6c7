-- `after_pointing` meets its contract. Assumes nothing.
use mathlib.Core.Path.{◌∙◌}
use Rattle.walk_numbers.specs.Answered.{after_pointing}
use Rattle.walk_numbers.proofs.after_pointing.Goals as goal

pub returns : goal.returns
unfolding after_pointing
returns c = c.unanswered.ensures ∙ rw c.points-code.ensures
