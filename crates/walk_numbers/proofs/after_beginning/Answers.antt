-- `after_beginning` meets its contract. Assumes nothing.
use mathlib.Core.Path.{ap, ◌∙◌}
use borrow.Author.Tests.{ne_eqb}
use mathlib.Core.Bool.{cond}
use lib.Dec.{eqb}
use lib.ListN.{replicate}
use Rattle.walk_numbers.specs.Answered.{after_beginning, unanswered}
use Rattle.walk_numbers.specs.declared.Answered.{Answered}
use Rattle.walk_views.specs.declared.Begun.{Begun}
use Rattle.walk_numbers.proofs.after_beginning.Goals as goal

pub returns-then-b-ne0 : goal.returns-then-b-ne0
unfolding after_beginning
returns-then-b-ne0 c = let s = c.args.s.walk in
    let b = c.at_start-b in let F : Begun
    → Answered = λ x. unanswered (cond (eqb x.code 0) x.walk s) x.code 0 (replicate 256 0) in
    c.unanswered.ensures ∙ ◌∙◌ {b = F b.result} (rw (ne_eqb b.result.code 0 c.if-b-ne0.true))
    (ap F b.ensures)

pub returns : goal.returns
unfolding after_beginning
returns c = let s = c.args.s.walk in
    let b = c.at_start-b in let F : Begun
    → Answered = λ x. unanswered (cond (eqb x.code 0) x.walk s) x.code 0 (replicate 256 0) in
    c.unanswered-2.ensures ∙ ◌∙◌ {b = F b.result} (rw c.if-b-ne0.false) (ap F b.ensures)
