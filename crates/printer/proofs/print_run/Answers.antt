-- `printer::print_run` meets its contract: the run has room for every answer. Assumes nothing.
use mathlib.Core.Path.{◌≡◌, refl}
use lib.ListN.{replicate}
use Rattle.grid.proofs.Fields.{indices-few}
use Rattle.printer.proofs.Arrays.{same-sheet}
use Rattle.printer.proofs.Runs.{run-prints}
use Rattle.grid.specs.Made.{shape}
use Rattle.printer.specs.Run.{printed, Fits, problem_with, run_sheet}
use Rattle.printer.proofs.print_run.Goals as goal
use Rattle.printer.proofs.print_run.Goals.{After-run_on-answer}

pub shared_ref_as_front-start : goal.shared_ref_as_front-start
shared_ref_as_front-start c = indices-few c.args.reading.grid c.requires.made

-- what is printed is the sheet of the run
printed-run : (c : After-run_on-answer)
    → let answer = c.run_on-answer.result in
    let buffer = c.run_on-answer.new.answer in
    (printed (shape c.args.reading.grid) answer buffer
    ≡ run_sheet (problem_with c.args.reading c.args.labels.now) c.args.reading.budget)
    × Fits (shape c.args.reading.grid) answer buffer
printed-run c =
    rw (c.run_on-answer.ensures.answer, c.run_on-answer.ensures.buffer)
    (run-prints (problem_with c.args.reading c.args.labels.now) c.args.reading.budget (replicate 256 0)
    refl)

pub print_answer-requires : goal.print_answer-requires
print_answer-requires c =
    (c.requires.made, (printed-run (goal.at.print_answer-requires c).After-run_on-answer).1)

pub returns : goal.returns
returns c = same-sheet _ (printed-run (goal.at.returns c).After-run_on-answer).0 c.print_answer.ensures
