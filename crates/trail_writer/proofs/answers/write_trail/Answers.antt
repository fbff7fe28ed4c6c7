-- `answers::write_trail` meets its contract: the path has an end, so the pass stores all records. Assumes nothing.
use Rattle.std.proofs.Common.{true, subst}
use Rattle.finder.proofs.Announcements.{can_pad, can_pass, finished_from, problem-from}
use Rattle.marks.specs.Reading.{problem_from}
use Rattle.place.specs.Problem.{Problem}
use Rattle.trail_pass.specs.Recording.{Recorded}
use Rattle.trail_writer.proofs.Endings.{ends-again}
use Rattle.trail_writer.proofs.answers.write_trail.Goals as goal

pub at-held-requires : goal.at-held-requires
at-held-requires c = can_pad c.requires.readable c.requires.accepted

pub pass_recording-requires : goal.pass_recording-requires
pass_recording-requires c =
    let w = c.requires in
    let t = c.at-held in record {
      can_pass = can_pass w.readable w.accepted c.args.round.now w.is_round w.below t.result t.ensures.0;
      has_room_for_trail = λ e. rw (problem-from w.readable w.accepted t.result t.ensures.0) w.fits;
    }

pub returns : goal.returns
returns c =
    let a = c.args in
    let w = c.requires in
    let t = c.at-held in
    let f = c.pass_recording in
    let round = a.round.now in
    ends-again (problem_from a.g a.start.now a.labels.now) a.budget round f.new.held a.trail.now f.new.trail
    f.result.bytes f.result.finish w.ends.6
    (finished_from w.readable w.accepted t.result t.ensures.0 a.budget round f.new.held f.result.finish
    f.ensures.finished)
    (subst
    (λ (p : Problem). Recorded p true a.budget a.trail.now f.new.trail f.result.bytes f.result.finish)
    (problem-from w.readable w.accepted t.result t.ensures.0) f.ensures.recorded)
