-- `answers::announced` meets its contract: the pass that counts, question 17, the pass that writes, and the finish
-- announced. Assumes nothing.
use Rattle.std.proofs.Common.{false, List, ◌≡◌, sym, ap, ◌∙◌, subst, ℕ, length}
use Rattle.combinatorics.proofs.Basics.{absurd_bool}
use Rattle.combinatorics.proofs.Fronts.{front-none}
use Rattle.combinatorics.specs.Front.{front}
use Rattle.finder.proofs.Announcements.{can_announce, can_pad, can_pass, finish_told, finish_written, finished_from}
use Rattle.finder.proofs.Announcements.{FinishedBy, problem-from}
use Rattle.marks.specs.Reading.{problem_from}
use Rattle.place.specs.Problem.{Problem}
use Rattle.trail_pass.specs.Recording.{Recorded}
use Rattle.trail_writer.specs.Again.{has_room, stored_at}
use Rattle.trail_writer.proofs.Endings.{announced-end, counts, refused_17, stores_nothing}
use Rattle.trail_writer.proofs.answers.announced.Goals as goal
use Rattle.trail_writer.proofs.answers.announced.Goals.{After-pass_recording-passed, After-stored-has_room}

pub at-held-requires : goal.at-held-requires
at-held-requires c = can_pad c.requires.readable c.requires.accepted

pub pass_recording-passed-requires : goal.pass_recording-passed-requires
pass_recording-passed-requires c =
    let w = c.requires in
    let round = c.round_of-round in record {
      can_pass = can_pass w.readable w.accepted round.result round.ensures.0 round.ensures.1 c.at-held.result
          c.at-held.ensures.0;
      has_room_for_trail = λ e. absurd_bool (sym e);
    }

abbrev trail : After-pass_recording-passed → List ℕ
trail c = c.pass_recording-passed.new.trail

abbrev problem : After-pass_recording-passed → Problem
problem c = let a = c.args in problem_from a.g a.start.now a.labels.now

finished : (c : After-pass_recording-passed) → (let a = c.args in
    FinishedBy a.g c.requires.readable.made a.start.now a.labels.now a.budget c.round_of-round.result
    c.pass_recording-passed.new.held c.pass_recording-passed.result.finish)
finished c =
    let w = c.requires in
    let passed = c.pass_recording-passed in
    finished_from w.readable w.accepted c.at-held.result c.at-held.ensures.0 c.args.budget c.round_of-round.result
    passed.new.held passed.result.finish passed.ensures.finished

recorded : (c : After-pass_recording-passed)
    → let f = c.pass_recording-passed.result in
    Recorded (problem c) false c.args.budget c.args.trail.now (trail c) f.bytes f.finish
recorded c =
    let w = c.requires in
    let f = c.pass_recording-passed.result in
    subst (λ (p : Problem). Recorded p false c.args.budget c.args.trail.now (trail c) f.bytes f.finish)
    (problem-from w.readable w.accepted c.at-held.result c.at-held.ensures.0) c.pass_recording-passed.ensures.recorded

same_trail : (c : After-pass_recording-passed) → trail c ≡ c.args.trail.now
same_trail c =
    let a = c.args in
    let f = c.pass_recording-passed.result in
    stores_nothing (problem c) a.budget a.trail.now (trail c) f.bytes f.finish (recorded c)

pub stored-has_room-requires : goal.stored-has_room-requires
stored-has_room-requires c =
    let here = (goal.at.stored-has_room-requires c).After-pass_recording-passed in
    let run = c.requires in
    let round = c.round_of-round in
    let passed = c.pass_recording-passed in
    record {
      readable = run.readable;
      is_round = round.ensures.0;
      below = round.ensures.1;
      accepted = run.accepted;
      end = counts (problem here) c.args.budget round.result passed.new.held 0 c.args.trail.now
          (trail here) passed.result.bytes passed.result.finish (finished here) (recorded here);
    }

asked : (c : After-stored-has_room)
    → let here = (goal.at.After-stored-has_room c).After-pass_recording-passed in
    c.stored-has_room.result
    ≡ has_room (problem here) (length c.args.trail.now) c.pass_recording-passed.result.finish
asked c =
    let here = (goal.at.After-stored-has_room c).After-pass_recording-passed in
    c.stored-has_room.ensures.value
    ∙ ap
    (λ (x : List ℕ). has_room (problem here) (length x) c.pass_recording-passed.result.finish)
    (same_trail here)

left : (c : After-stored-has_room)
    → let here = (goal.at.After-stored-has_room c).After-pass_recording-passed in
    let old = c.args.trail.now in
    c.stored-has_room.new.trail
    ≡ front (stored_at (problem here) (length old) c.pass_recording-passed.result.finish) old
left c =
    let here = (goal.at.After-stored-has_room c).After-pass_recording-passed in
    c.stored-has_room.ensures.trail_after
    ∙ ap
    (λ (x : List ℕ). front (stored_at (problem here) (length x) c.pass_recording-passed.result.finish) x)
    (same_trail here)

pub returns-then-not-has_room : goal.returns-then-not-has_room
returns-then-not-has_room c =
    let here = (goal.at.returns-then-not-has_room c).After-pass_recording-passed in
    let past = (goal.at.returns-then-not-has_room c).After-stored-has_room in
    let a = c.args in
    let passed = c.pass_recording-passed in
    let said = refused_17 (problem here) a.budget c.round_of-round.result passed.new.held (length a.trail.now)
    passed.result.finish (finished here) (sym (asked past) ∙ c.if-not-has_room.true) in
    rw c.refused.ensures record {
      value = said.0;
      answer_after = sym (front-none a.answer.now);
      trail_after = left past ∙ ap (λ (x : List ℕ). front x a.trail.now) said.1;
    }

pub announce-run-requires : goal.announce-run-requires
announce-run-requires c =
    let here = (goal.at.announce-run-requires c).After-pass_recording-passed in
    let a = c.args in
    let round = c.round_of-round in
    let passed = c.pass_recording-passed in
    can_announce a.g c.requires.readable.made a.start.now a.labels.now a.budget round.result passed.new.held _
    round.ensures.1 c.requires.room passed.result.finish (finished here)

pub returns : goal.returns
returns c =
    let here = (goal.at.returns c).After-pass_recording-passed in
    let past = (goal.at.returns c).After-stored-has_room in
    let a = c.args in
    let made = c.requires.readable.made in
    let round = c.round_of-round.result in
    let passed = c.pass_recording-passed in
    let held = passed.new.held in
    let f = passed.result.finish in
    let run = c.announce-run.ensures.value
    ∙ finish_told a.g made a.start.now a.labels.now a.budget round held f (finished here) in
    let put = finish_written a.g made a.start.now a.labels.now a.budget round held f (finished here) in
    let room = sym (asked past) ∙ c.if-not-has_room.false in
    let said = announced-end (problem here) a.budget round held (length a.trail.now)
    a.trail.now (trail here) passed.result.bytes f (finished here) (recorded here) room
    c.announce-run.result run in record {
      value = said.0;
      answer_after = c.announce-run.ensures.answer_after
          ∙ ap (λ (x : List ℕ). front x a.answer.now) (put ∙ said.1);
      trail_after = left past ∙ ap (λ (x : List ℕ). front x a.trail.now) said.2;
    }
