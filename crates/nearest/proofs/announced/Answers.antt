-- `nearest::announced` meets its contract: the pass from the start, its finish announced, and what was met on the way.
-- Assumes nothing.
use mathlib.Core.List.{List}
use mathlib.Core.Path.{◌≡◌, ap, ◌∙◌, subst}
use Prim.Native.Nat.{ℕ}
use native.Mathlib.Omega.{arith}
use Rattle.combinatorics.specs.Front.{front}
use Rattle.finder.proofs.Announcements.{can_announce, can_pad, can_pass, finish_told, finish_written, finished_from}
use Rattle.finder.proofs.Announcements.{FinishedBy, problem-from}
use Rattle.finder.specs.declared.answers.RunAnswer.{RunAnswer}
use Rattle.grid.proofs.Fields.{indices-few, made-indices}
use Rattle.grid.specs.Made.{shape}
use Rattle.grid_points.proofs.Points.{point-long}
use Rattle.marks.specs.Reading.{problem_from}
use Rattle.place.specs.Problem.{Problem}
use Rattle.nearest_pass.specs.Survey.{Surveys}
use Rattle.nearest_pass.specs.declared.Vertex.{Vertex}
use Rattle.std.specs.Prelude.{Option}
use Rattle.nearest.specs.declared.Report.{Report}
use Rattle.nearest.proofs.Finishes.{finish_listed, finish_nearest}
use Rattle.nearest.proofs.announced.Goals as goal
use Rattle.nearest.proofs.announced.Goals.{After-pass_noting-passed}

-- reports that agree
same_report : {run run' : RunAnswer} {near near' : Option Vertex} → run ≡ run' → near ≡ near'
    → ◌≡◌ {A = Report} (record { run = run; nearest = near }) (record { run = run'; nearest = near' })
same_report e f = cc

pub at-held-requires : goal.at-held-requires
at-held-requires c =
    let w = c.requires.can_run in
    can_pad w.readable w.accepted

pub pass_noting-passed-requires : goal.pass_noting-passed-requires
pass_noting-passed-requires c =
    let a = c.args in
    let w = c.requires.can_run in
    let made = w.readable.made in
    let round = c.round_of-round in
    record {
      can_pass = can_pass w.readable w.accepted round.result round.ensures.0 round.ensures.1 c.at-held.result
          c.at-held.ensures.0;
      can_note = record {
        measure = record {
          indices = made-indices a.g made;
          sixteen = indices-few a.g made;
          each = c.weights-weights.ensures;
          long = omega (arith, made-indices a.g made, point-long (shape a.g) a.w.now c.requires.w_value.0);
        };
        on_grid = c.requires.w_value.0;
        room = c.requires.w_value.1;
      };
    }

abbrev problem : After-pass_noting-passed → Problem
problem c =
    let a = c.args in
    problem_from a.g a.start.now a.labels.now

finished : (c : After-pass_noting-passed) → (let a = c.args in
    FinishedBy a.g c.requires.can_run.readable.made a.start.now a.labels.now a.budget c.round_of-round.result
    c.pass_noting-passed.new.held c.pass_noting-passed.result.finish)
finished c =
    let w = c.requires.can_run in
    finished_from w.readable w.accepted c.at-held.result c.at-held.ensures.0 c.args.budget c.round_of-round.result
    c.pass_noting-passed.new.held c.pass_noting-passed.result.finish c.pass_noting-passed.ensures.finished

surveyed : (c : After-pass_noting-passed) → (let a = c.args in
    let passed = c.pass_noting-passed in
    Surveys (problem c) a.w.now a.given a.budget a.found.now passed.new.list passed.result.nearest
    passed.result.finish)
surveyed c =
    let a = c.args in
    let w = c.requires.can_run in
    let passed = c.pass_noting-passed in
    subst
    (λ (p : Problem). Surveys p a.w.now a.given a.budget a.found.now passed.new.list passed.result.nearest
    passed.result.finish)
    (problem-from w.readable w.accepted c.at-held.result c.at-held.ensures.0) passed.ensures.surveys

pub announce-run-requires : goal.announce-run-requires
announce-run-requires c =
    let a = c.args in
    let made = c.requires.can_run.readable.made in
    let round = c.round_of-round in
    can_announce a.g made a.start.now a.labels.now a.budget round.result c.pass_noting-passed.new.held _
    round.ensures.1 c.requires.can_run.room c.pass_noting-passed.result.finish
    (finished (goal.at.announce-run-requires c).After-pass_noting-passed)

pub returns : goal.returns
returns c =
    let a = c.args in
    let made = c.requires.can_run.readable.made in
    let at = (goal.at.returns c).After-pass_noting-passed in
    let round = c.round_of-round.result in
    let passed = c.pass_noting-passed in
    let held = passed.new.held in
    let f = passed.result.finish in
    let end = finished at in record {
      value = same_report
          (c.announce-run.ensures.value
          ∙ finish_told a.g made a.start.now a.labels.now a.budget round held f end)
          (finish_nearest (problem at) a.w.now a.given a.budget round held a.found.now passed.new.list
          passed.result.nearest f end (surveyed at));
      answer_after = c.announce-run.ensures.answer_after
          ∙ ap
          (λ (x : List ℕ). front x a.answer.now)
          (finish_written a.g made a.start.now a.labels.now a.budget round held f end);
      found_after = finish_listed (problem at) a.w.now a.given a.budget round held a.found.now passed.new.list
          passed.result.nearest f end (surveyed at);
    }
