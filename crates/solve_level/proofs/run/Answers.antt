-- `run` meets its contract: the pass from the start, and its finish announced. Assumes nothing.
use Rattle.std.proofs.Common.{List, sym, ap, ◌∙◌, ℕ}
use lib.Seq.{length-take-le}
use Rattle.combinatorics.specs.Front.{front}
use Rattle.grid.proofs.Fields.{blocks-range}
use Rattle.solve_level.proofs.Answers.{FinishedBy, can_announce, can_pad, can_pass, finish_told, finish_written}
use Rattle.solve_level.proofs.Answers.{blocks-room, finished_from}
use Rattle.solve_level.proofs.run.Goals as goal
use Rattle.solve_level.proofs.run.Goals.{After-pass-finish}

finished : (c : After-pass-finish)
    → FinishedBy c.requires c.args.budget c.round_of-round.result c.pass-finish.new.held
    c.pass-finish.result
finished c =
    finished_from c.requires c.args.budget c.round_of-round.result c.pass-finish.new.held
    c.at-held.result c.at-held.ensures.0 c.pass-finish.result c.pass-finish.ensures

pub at-held-requires : goal.at-held-requires
at-held-requires c = can_pad c.requires

pub shared_ref_as_front-sizes : goal.shared_ref_as_front-sizes
shared_ref_as_front-sizes c = (blocks-range c.args.unit c.requires.made).1

pub slice_bounds-sizes-end : goal.slice_bounds-sizes-end
slice_bounds-sizes-end c = sym (length-take-le _ _ (blocks-room c.requires))

pub pass-finish-requires : goal.pass-finish-requires
pass-finish-requires c =
    let lengths = c.rests-rests in
    let round = c.round_of-round in
    can_pass c.requires lengths.result lengths.ensures round.result round.ensures.0 round.ensures.1 c.at-held.result c.at-held.ensures.0

pub announce-requires : goal.announce-requires
announce-requires c =
    let here = (goal.at.announce-requires c).After-pass-finish in
    let round = c.round_of-round in
    can_announce c.requires c.args.budget round.result c.pass-finish.new.held round.ensures.1
    c.pass-finish.result (finished here)

pub returns : goal.returns
returns c =
    let end = finished (goal.at.returns c).After-pass-finish in
    let a = c.args in
    let round = c.round_of-round.result in
    let held = c.pass-finish.new.held in
    let said = c.announce.ensures in
    record {
      result_value = said.value
          ∙ finish_told c.requires a.budget round held c.pass-finish.result end;
      answer_after = said.answer_after
          ∙ ap
          (λ (x : List ℕ). front x a.answer.now)
          (finish_written c.requires a.budget round held c.pass-finish.result end);
    }
