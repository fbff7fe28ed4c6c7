-- `answered_by` meets its contract. Assumes nothing.
use mathlib.Core.Path.{sym, ap, ◌∙◌}
use Rattle.walk_numbers.specs.Answered.{answered_by}
use Rattle.walk_ways.specs.declared.WalkAnswer.{WalkAnswer}
use Rattle.walk_numbers.proofs.answered_by.Goals as goal

pub returns-in-Refused : goal.returns-in-Refused
returns-in-Refused c = c.unanswered.ensures ∙ (let a = c.args in
    sym (ap (λ (x : WalkAnswer). answered_by a.walk x a.simplex a.change)
    c.in-Refused.is))

pub returns-in-Ended : goal.returns-in-Ended
returns-in-Ended c = rw c.from.ensures.0 (let a = c.args in
    sym (ap (λ (x : WalkAnswer). answered_by a.walk x a.simplex a.change)
    c.in-Ended.is))

pub returns-in-Moved : goal.returns-in-Moved
returns-in-Moved c = (let a = c.args in
    sym (ap (λ (x : WalkAnswer). answered_by a.walk x a.simplex a.change) c.in-Moved.is))
