-- `answers::announced` meets its contract: the pass from the start, and its finish announced. Assumes nothing.
use Rattle.std.proofs.Common.{List, ap, ◌∙◌, ℕ}
use Rattle.combinatorics.specs.Front.{front}
use Rattle.finder.proofs.Announcements.{can_announce, can_pad, can_pass, finish_told, finish_written}
use Rattle.finder.proofs.Announcements.{finished_from, FinishedBy}
use Rattle.finder.proofs.answers.announced.Goals as goal
use Rattle.finder.proofs.answers.announced.Goals.{After-pass-finish}

pub at-held-requires : goal.at-held-requires
at-held-requires c = can_pad c.requires.readable c.requires.accepted

pub pass-finish-requires : goal.pass-finish-requires
pass-finish-requires c =
    let w = c.requires in
    let round = c.round_of-round in
    can_pass w.readable w.accepted round.result round.ensures.0 round.ensures.1 c.at-held.result c.at-held.ensures.0

finished : (c : After-pass-finish) → (let a = c.args in
    FinishedBy a.g c.requires.readable.made a.start.now a.labels.now a.budget c.round_of-round.result
    c.pass-finish.new.held c.pass-finish.result)
finished c =
    let w = c.requires in
    finished_from w.readable w.accepted c.at-held.result c.at-held.ensures.0 c.args.budget c.round_of-round.result
    c.pass-finish.new.held c.pass-finish.result c.pass-finish.ensures

pub announce-requires : goal.announce-requires
announce-requires c =
    let a = c.args in
    let made = c.requires.readable.made in
    let round = c.round_of-round in
    can_announce a.g made a.start.now a.labels.now a.budget round.result c.pass-finish.new.held _
    round.ensures.1 c.requires.room c.pass-finish.result (finished (goal.at.announce-requires c).After-pass-finish)

pub returns : goal.returns
returns c =
    let a = c.args in
    let made = c.requires.readable.made in
    let round = c.round_of-round.result in
    let held = c.pass-finish.new.held in
    let end = finished (goal.at.returns c).After-pass-finish in record {
      value = c.announce.ensures.value
          ∙ finish_told a.g made a.start.now a.labels.now a.budget round held c.pass-finish.result end;
      answer_after = c.announce.ensures.answer_after
          ∙ ap
          (λ (x : List ℕ). front x a.answer.now)
          (finish_written a.g made a.start.now a.labels.now a.budget round held c.pass-finish.result end);
    }
