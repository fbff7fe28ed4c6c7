-- `finder::answers::run` meets its contract: questions 1 to 4, and then the run on the grid that they let through.
-- Assumes nothing.
use mathlib.Core.Path.{◌≡◌, sym, ◌∙◌, subst}
use lib.ListN.{length}
use Rattle.grid.proofs.Fields.{made_code, made-is}
use Rattle.grid_points.specs.Grid.{Grid}
use Rattle.place.specs.Problem.{Problem, problem_of}
use Rattle.finder.specs.Run.{run_answer, run_buffer}
use Rattle.finder.proofs.Refusals.{by_grid, refused, same-problem}
use Rattle.finder.proofs.answers.run.Goals as goal

pub returns-then-code-ne0 : goal.returns-then-code-ne0
returns-then-code-ne0 c =
    let a = c.args in
    let old = a.answer.now in
    let G : Grid = record { sizes = a.sizes.now; divisions = a.divisions.now } in
    let r = c.new-made.result in
    let p = problem_of a.sizes.now a.divisions.now a.start.now a.labels.now in
    let q = made_code G r c.new-made.ensures in
    let s = refused p a.budget old r.code c.if-code-ne0.true
    (by_grid p (length old) (λ f. c.if-code-ne0.true (q ∙ f)) ∙ sym q) in
    record { answer = s.0; buffer = s.1 }

pub run_on-requires : goal.run_on-requires
run_on-requires c =
    let a = c.args in
    let G : Grid = record { sizes = a.sizes.now; divisions = a.divisions.now } in
    made-is G c.new-made.result c.new-made.ensures c.if-code-ne0.false

pub returns : goal.returns
returns c =
    let a = c.args in
    let old = a.answer.now in
    let G : Grid = record { sizes = a.sizes.now; divisions = a.divisions.now } in
    let w = c.run_on in
    let e = same-problem G c.new-made.result c.new-made.ensures c.if-code-ne0.false a.start.now
    a.labels.now in
    record {
      answer = subst (λ (p : Problem). w.result ≡ run_answer p (length old) a.budget) e w.ensures.answer;
      buffer = subst (λ (p : Problem). w.new.answer ≡ run_buffer p a.budget old) e w.ensures.buffer;
    }
