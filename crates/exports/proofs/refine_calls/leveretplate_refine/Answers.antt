-- `leveretplate_refine` meets its contract: it is the refinement's own, with the levels as numbers. Assumes nothing.
use mathlib.Core.Path.{ap, ◌∙◌}
use Rattle.combinatorics.specs.Front.{front}
use Rattle.grid_points.specs.Grid.{lent}
use Rattle.refinement_levels.specs.Levels.{Refinement}
use Rattle.refinement.proofs.Outcomes.{answer-few}
use Rattle.refinement.specs.Answer.{lent_game}
use Rattle.refinement.specs.declared.Refined.{Refined}
use Rattle.exports.specs.Refine.{refined_facts}
use borrow.Author.Rules.{rules}
use Rattle.exports.proofs.refine_calls.leveretplate_refine.Goals as goal
use Rattle.exports.proofs.refine_calls.leveretplate_refine.Goals.{Start}

-- what is lent
abbrev game : Start → Refinement
game c =
    lent_game (lent c.args.sizes.now c.args.divisions.now) c.args.start.now c.args.losses.now
    c.args.factor

pub put_levels-requires : goal.put_levels-requires
put_levels-requires c =
    let few = answer-few (game (goal.at.put_levels-requires c).Start) c.args.levels c.args.labels.now c.args.answer.now in
    let found = c.refine-found.ensures.answer in
    (rw found few.0, rw found few.1, search rules)

pub returns : goal.returns
returns c =
    let w = c.refine-found.ensures in record {
      number = ap (λ (found : Refined). found.code) c.refine-found.ensures.answer;
      labels = c.refine-found.ensures.labels;
      answer = c.refine-found.ensures.numbers;
      facts = c.put_levels.ensures ∙ ap
          (λ (found : Refined). front (refined_facts found) c.args.facts.now) c.refine-found.ensures.answer;
    }
