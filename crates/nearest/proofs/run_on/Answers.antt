-- `nearest::run_on` meets its contract: the questions, the pass, and after its end the list. Assumes nothing.
use mathlib.Core.Bool.{true}
use mathlib.Core.List.{List}
use mathlib.Core.Path.{◌≡◌, sym, ap, ◌∙◌}
use Prim.Native.Nat.{ℕ, ◌≤◌}
use lib.ListN.{length, take}
use native.Mathlib.Omega.{arith}
use Rattle.combinatorics.proofs.Fronts.{front-none}
use Rattle.combinatorics.specs.Front.{front}
use Rattle.finder.proofs.Refusals.{accepted-with_room}
use Rattle.finder.specs.Run.{numbers_of}
use Rattle.grid_points.specs.Grid.{is_grid_point, num_points}
use Rattle.marks.specs.Reading.{problem_from}
use Rattle.place.specs.Path.{answer}
use Rattle.place.specs.Problem.{Problem}
use Rattle.path_laws.specs.Demand.{Accepted}
use Rattle.nearest.proofs.Refusals.{all_yes, answered, by_point, list_of, listed-few, none_of, refused}
use Rattle.nearest.specs.Report.{near_answer_buffer, list_buffer, listed_by, nearest_in, report_of}
use Rattle.nearest_pass.specs.declared.Vertex.{Vertex}
use Rattle.std.specs.Prelude.{Some}
use Rattle.nearest.specs.declared.Report.{Report}
use Rattle.questions.specs.Questions.{first_no}
use Rattle.nearest_visited.specs.Questions.{point_questions}
use Rattle.nearest.proofs.run_on.Goals as goal
use Rattle.nearest.proofs.run_on.Goals.{After-announced-report, After-found-1}

pub returns-then-number-ne0 : goal.returns-then-number-ne0
returns-then-number-ne0 c =
    let a = c.args in
    let p = problem_from a.g a.start.now a.labels.now in
    let w = refused p a.w.now a.given a.budget a.answer.now a.list.now
    c.first_nearest_no-number.result
    c.if-number-ne0.true
    (by_point p a.w.now (length a.answer.now) (length a.list.now) c.requires.accepted
    ∙ sym c.first_nearest_no-number.ensures) in
    record { report = w.0; answer = w.1; list = w.2 }

abbrev problem : After-found-1 → Problem
problem c =
    let a = c.args in
    problem_from a.g a.start.now a.labels.now

none-no : (c : After-found-1)
    → let a = c.args in
    first_no (point_questions (problem c) a.w.now (length a.answer.now) (length a.list.now)) ≡ 0
none-no c = sym c.first_nearest_no-number.ensures
    ∙ c.if-number-ne0.false

yes : (c : After-found-1)
    → let a = c.args in
    (is_grid_point (problem c).grid a.w.now ≡ true) × Accepted (problem c)
    × (num_points (problem c).grid ≤ length a.list.now)
yes c =
    let a = c.args in
    let y = all_yes (problem c) a.w.now (length a.answer.now) (length a.list.now) (none-no c) in
    (y.0, (accepted-with_room (problem c) (length a.answer.now) c.requires.accepted y.1).0, y.2)

pub announced-report-requires : goal.announced-report-requires
announced-report-requires c =
    let a = c.args in
    let y = all_yes (problem c) a.w.now (length a.answer.now) (length a.list.now) (none-no c) in
    let ok = accepted-with_room (problem c) (length a.answer.now) c.requires.accepted y.1 in record {
      can_run = record {
        readable = record {
          made = c.requires;
          filled = c.binomials.ensures;
          whole = ok.0.table_length;
        };
        accepted = ok.0;
        room = ok.1;
      };
      w_value = (y.0, ok.0.points);
    }

given : (c : After-announced-report)
    → let a = c.args in
    let p = problem (goal.at.After-announced-report c).After-found-1 in
    (c.announced-report.result ≡ report_of p a.w.now a.given (length a.answer.now) (length a.list.now)
    a.budget)
    × (front (numbers_of (answer p a.budget)) a.answer.now
    ≡ near_answer_buffer p a.w.now (length a.list.now) a.budget a.answer.now)
    × (front (listed_by p a.w.now a.given (answer p a.budget)) a.list.now
    ≡ list_buffer p a.w.now a.given (length a.answer.now) a.budget a.list.now)
given c =
    let a = c.args in
    let p = problem (goal.at.After-announced-report c).After-found-1 in
    let w = answered p a.w.now a.given a.budget a.answer.now a.list.now
    (by_point p a.w.now (length a.answer.now) (length a.list.now) c.requires.accepted
    ∙ none-no (goal.at.After-announced-report c).After-found-1) in
    (c.announced-report.ensures.value ∙ w.0, w.1, w.2)

nearest-is : (c : After-announced-report)
    → let a = c.args in
    let p = problem (goal.at.After-announced-report c).After-found-1 in
    nearest_in p a.w.now a.given (answer p a.budget) ≡ c.announced-report.result.nearest
nearest-is c = ap (λ (r : Report). r.nearest) (sym c.announced-report.ensures.value)

-- as many positions are listed as were found
listed : (c : After-announced-report) {v : Vertex} → c.announced-report.result.nearest ≡ Some v
    → let a = c.args in
    let p = problem (goal.at.After-announced-report c).After-found-1 in
    v.listed ≡ length (listed_by p a.w.now a.given (answer p a.budget))
listed c e =
    let a = c.args in
    let p = problem (goal.at.After-announced-report c).After-found-1 in
    list_of p a.w.now a.given (answer p a.budget) (nearest-is c ∙ e)

pub put_list-requires : goal.put_list-requires
put_list-requires c =
    let a = c.args in
    let p = problem (goal.at.put_list-requires c).After-found-1 in
    let y = yes (goal.at.put_list-requires c).After-found-1 in
    let n = listed (goal.at.put_list-requires c).After-announced-report c.in-Some.is in
    let few = listed-few y.1 a.w.now y.0 a.given (answer p a.budget) in
    (omega (arith, n, few, y.2), omega (arith, n, few, y.1.points))

pub returns-in-Some : goal.returns-in-Some
returns-in-Some c =
    let a = c.args in
    let G = given (goal.at.returns-in-Some c).After-announced-report in
    let n = listed (goal.at.returns-in-Some c).After-announced-report c.in-Some.is in record {
      report = G.0;
      answer = c.announced-report.ensures.answer_after ∙ G.1;
      list = c.put_list.ensures
          ∙ ap (λ (k : ℕ). front (take k c.announced-report.new.found) a.list.now) n
          ∙ ap (λ (l : List ℕ). front l a.list.now) c.announced-report.ensures.found_after
          ∙ G.2;
    }

pub returns-in_default : goal.returns-in_default
returns-in_default c =
    let a = c.args in
    let p = problem (goal.at.returns-in_default c).After-found-1 in
    let G = given (goal.at.returns-in_default c).After-announced-report in
    let z = none_of p a.w.now a.given (answer p a.budget)
    (nearest-is (goal.at.returns-in_default c).After-announced-report ∙ c.in_default.is) in record {
      report = G.0;
      answer = c.announced-report.ensures.answer_after ∙ G.1;
      list = sym (front-none a.list.now) ∙ ap (λ (l : List ℕ). front l a.list.now) (sym z) ∙ G.2;
    }
