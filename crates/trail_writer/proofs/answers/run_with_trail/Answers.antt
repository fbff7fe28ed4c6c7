-- `answers::run_with_trail` meets its contract: questions 1 to 4 on the grid, 5 to 8 behind them, and then the answer
-- of the path. Assumes nothing.
use mathlib.Core.List.{List}
use mathlib.Core.Path.{◌≡◌, refl, sym, ◌∙◌, subst}
use Prim.Native.Nat.{ℕ}
use lib.ListN.{length}
use Rattle.finder.proofs.Refusals.{accepted-with_room, by_grid, by_later, same-problem}
use Rattle.finder.specs.Run.{run_refusal}
use Rattle.grid.proofs.Fields.{made_code, made-is}
use Rattle.grid.specs.Made.{IsMade}
use Rattle.grid_points.specs.Grid.{Grid}
use Rattle.marks.specs.Reading.{problem_from}
use Rattle.place.specs.Problem.{Problem, problem_of}
use Rattle.trail_writer.specs.Writing.{trail_answer_buffer, trail_answer, trail_buffer}
use Rattle.trail_writer.specs.declared.answers.TrailAnswer.{TrailAnswer}
use Rattle.trail_writer.proofs.Endings.{answered, refused}
use Rattle.trail_writer.proofs.answers.run_with_trail.Goals as goal
use Rattle.trail_writer.proofs.answers.run_with_trail.Goals.{After-first_run_no-number, Else-code-ne0, Start}

-- the grid and the problem that were lent
abbrev lent : Start → Grid
lent c = record { sizes = c.args.sizes.now; divisions = c.args.divisions.now }

abbrev lent_problem : Start → Problem
lent_problem c =
    let a = c.args in
    problem_of a.sizes.now a.divisions.now a.start.now a.labels.now

-- the answer to a problem, with what is left in both buffers
abbrev Answers : Start → TrailAnswer → List ℕ → List ℕ → Problem → Type 0
Answers c said answer trail p =
    let a = c.args in
    (said ≡ trail_answer p (length a.answer.now) (length a.trail.now) a.budget)
    × ((answer ≡ trail_answer_buffer p (length a.trail.now) a.budget a.answer.now)
    × (trail ≡ trail_buffer p (length a.answer.now) a.budget a.trail.now))

pub returns-then-code-ne0 : goal.returns-then-code-ne0
returns-then-code-ne0 c =
    let start = (goal.at.returns-then-code-ne0 c).Start in
    let a = c.args in
    let made = c.new-made in
    let q = made_code (lent start) made.result made.ensures in
    let w = refused (lent_problem start) a.budget a.answer.now a.trail.now made.result.code
    c.if-code-ne0.true
    (by_grid (lent_problem start) (length a.answer.now) (λ f. c.if-code-ne0.true (q ∙ f)) ∙ sym q) in
    rw c.refused.ensures record { answer = w.0; buffer = w.1; trail = w.2 }

abbrev problem : Else-code-ne0 → Problem
problem c =
    let a = c.args in
    problem_from c.new-made.result.grid a.start.now a.labels.now

is_made : (c : Else-code-ne0) → IsMade c.new-made.result.grid
is_made c =
    let made = c.new-made in
    made-is (lent (goal.at.Else-code-ne0 c).Start) made.result made.ensures c.if-code-ne0.false

-- what holds of the grid's problem holds of the problem that was lent
of_lent : (c : Else-code-ne0) {said : TrailAnswer} {answer trail : List ℕ}
    → Answers (goal.at.Else-code-ne0 c).Start said answer trail (problem c)
    → Answers (goal.at.Else-code-ne0 c).Start said answer trail (lent_problem (goal.at.Else-code-ne0 c).Start)
of_lent c {said} {answer} {trail} =
    let begin = (goal.at.Else-code-ne0 c).Start in
    let made = c.new-made in
    let a = c.args in
    subst (Answers begin said answer trail)
    (same-problem (lent begin) made.result made.ensures c.if-code-ne0.false a.start.now a.labels.now)

pub first_run_no-number-requires : goal.first_run_no-number-requires
first_run_no-number-requires c = is_made c

-- questions 5 to 8 asked
asked : (c : After-first_run_no-number)
    → run_refusal (problem (goal.at.After-first_run_no-number c).Else-code-ne0) (length c.args.answer.now)
    ≡ c.first_run_no-number.result
asked c =
    let here = (goal.at.After-first_run_no-number c).Else-code-ne0 in
    by_later (problem here) (length c.args.answer.now) (is_made here).accepted ∙ sym c.first_run_no-number.ensures

pub returns-then-number-ne0 : goal.returns-then-number-ne0
returns-then-number-ne0 c =
    let here = (goal.at.returns-then-number-ne0 c).Else-code-ne0 in
    let a = c.args in
    let w = refused (problem here) a.budget a.answer.now a.trail.now c.first_run_no-number.result
    c.if-number-ne0.true (asked (goal.at.returns-then-number-ne0 c).After-first_run_no-number) in
    let both = of_lent here (w.0, (w.1, w.2)) in
    rw c.refused-then-number-ne0.ensures record { answer = both.0; buffer = both.1.0; trail = both.1.1 }

pub binomials-requires : goal.binomials-requires
binomials-requires c = (is_made (goal.at.binomials-requires c).Else-code-ne0, refl)

pub announced-requires : goal.announced-requires
announced-requires c =
    let here = (goal.at.announced-requires c).Else-code-ne0 in
    let w = accepted-with_room (problem here) (length c.args.answer.now) (is_made here).accepted
    (sym c.first_run_no-number.ensures ∙ c.if-number-ne0.false) in
    record {
      readable = record {
        made = is_made here;
        filled = c.binomials.ensures;
        whole = w.0.table_length;
      };
      accepted = w.0;
      room = w.1;
    }

pub returns : goal.returns
returns c =
    let here = (goal.at.returns c).Else-code-ne0 in
    let a = c.args in
    let told = c.announced.ensures in
    let v = answered (problem here) a.budget a.answer.now a.trail.now
    (asked (goal.at.returns c).After-first_run_no-number ∙ c.if-number-ne0.false) in
    let both = of_lent here (
      told.value ∙ v.0,
      ((rw told.value at told.answer_after) ∙ v.1, (rw told.value at told.trail_after) ∙ v.2),
    ) in
    record { answer = both.0; buffer = both.1.0; trail = both.1.1 }
