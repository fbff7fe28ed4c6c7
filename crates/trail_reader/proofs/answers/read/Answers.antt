-- `answers::read` meets its contract: questions 1 to 4 on the grid, 5 on the start, and then the reading.
-- Assumes nothing.
use mathlib.Core.List.{[]}
use mathlib.Core.Path.{◌≡◌, sym, ◌∙◌, subst}
use native.Mathlib.Omega.{arith}
use Rattle.finder.proofs.Refusals.{same-problem}
use Rattle.grid.proofs.Fields.{made_code, made-is}
use Rattle.grid_points.specs.Grid.{Grid}
use Rattle.place.specs.Problem.{Problem, problem_of}
use Rattle.trail_steps.specs.Reading.{problem_by}
use Rattle.trail_reader.specs.Reading.{read_answer, read_points}
use Rattle.trail_reader.proofs.Rebuilt.{by_grid, by_number, by_start, read_so, has-start_by}
use Rattle.trail_reader.proofs.answers.read.Goals as goal

pub returns-then-code-ne0 : goal.returns-then-code-ne0
returns-then-code-ne0 c =
    let a = c.args in
    let G : Grid = record { sizes = a.sizes.now; divisions = a.divisions.now } in
    let r = c.new-made.result in
    let p = problem_of a.sizes.now a.divisions.now a.start.now [] in
    let q = made_code G r c.new-made.ensures in
    let w = by_number p a.trail.now a.number r.code c.if-code-ne0.true
    (by_grid p a.trail.now a.number (λ f. c.if-code-ne0.true (q ∙ f)) ∙ sym q) in
    record { answer = c.refused.ensures.0 ∙ w.0; points = c.refused.ensures.1 ∙ w.1 a.points }

pub is_grid_point-requires : goal.is_grid_point-requires
is_grid_point-requires c =
    let G : Grid = record {
      sizes = c.args.sizes.now;
      divisions = c.args.divisions.now;
    } in
    made-is G c.new-made.result c.new-made.ensures c.if-code-ne0.false

pub returns-then-not-is_grid_point : goal.returns-then-not-is_grid_point
returns-then-not-is_grid_point c =
    let a = c.args in
    let G : Grid = record { sizes = a.sizes.now; divisions = a.divisions.now } in
    let made = made-is G c.new-made.result
    c.new-made.ensures c.if-code-ne0.false in
    let p = problem_by c.new-made.result.grid a.start.now in
    let off = sym c.is_grid_point.ensures ∙ c.if-not-is_grid_point.true in
    let w = by_number p a.trail.now a.number 5 (λ z. omega arith)
    (by_start p a.trail.now a.number made.accepted off) in
    let told = subst
    (λ (p : Problem). (c.refused-then-not-is_grid_point.result.answer ≡ read_answer p a.trail.now a.number)
    × (c.refused-then-not-is_grid_point.result.points ≡ read_points p a.trail.now a.number a.points))
    (same-problem G c.new-made.result
    c.new-made.ensures c.if-code-ne0.false a.start.now [])
    (c.refused-then-not-is_grid_point.ensures.0 ∙ w.0, c.refused-then-not-is_grid_point.ensures.1 ∙ w.1 a.points) in
    record { answer = told.0; points = told.1 }

pub read_on-requires : goal.read_on-requires
read_on-requires c =
    let a = c.args in
    let G : Grid = record { sizes = a.sizes.now; divisions = a.divisions.now } in
    let made = made-is G c.new-made.result
    c.new-made.ensures c.if-code-ne0.false in
    record {
      made = made;
      has_start = has-start_by c.new-made.result.grid made a.start.now
          (sym c.is_grid_point.ensures ∙ c.if-not-is_grid_point.false);
    }

pub returns : goal.returns
returns c =
    let a = c.args in
    let G : Grid = record { sizes = a.sizes.now; divisions = a.divisions.now } in
    let made = made-is G c.new-made.result
    c.new-made.ensures c.if-code-ne0.false in
    let p = problem_by c.new-made.result.grid a.start.now in
    let on = sym c.is_grid_point.ensures ∙ c.if-not-is_grid_point.false in
    let w = read_so p a.trail.now a.number made.accepted on in
    let R = c.read_on.ensures in
    let told = subst
    (λ (p : Problem). (c.read_on.result.answer ≡ read_answer p a.trail.now a.number)
    × (c.read_on.result.points ≡ read_points p a.trail.now a.number a.points))
    (same-problem G c.new-made.result
    c.new-made.ensures c.if-code-ne0.false a.start.now [])
    (R.answer ∙ w.0, R.points ∙ w.1 a.points) in
    record { answer = told.0; points = told.1 }
