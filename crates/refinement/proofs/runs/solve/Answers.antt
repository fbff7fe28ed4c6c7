-- `refinement::runs::solve` meets its contract. Assumes nothing.
use mathlib.Core.Path.{sym}
use Prim.Native.Nat.{◌*◌, ◌≤◌}
use lib.Seq.{length-take-le}
use native.Mathlib.Omega.{arith}
use Rattle.refinement.proofs.LevelStarts.{room-begins}
use Rattle.refinement.proofs.Solved.{answer_told, begins, can-run, first-inside, labels_told, level_told}
use Rattle.refinement.proofs.runs.solve.Goals as goal
use Rattle.refinement.proofs.runs.solve.Goals.{After-room_of}

pub room_of-requires : goal.room_of-requires
room_of-requires c = c.requires.made

-- where the level's room begins
at_small : (c : After-room_of) → c.args.level * c.room_of.result ≤ 2176
at_small c =
    room-begins c.args.level c.room_of.result
    c.requires.starts.few c.room_of.ensures.1

pub overflow_mul-at : goal.overflow_mul-at
overflow_mul-at c = omega (arith, at_small c)

pub start_of-first-requires : goal.start_of-first-requires
start_of-first-requires c = (
  c.requires.starts,
  c.requires.made,
)

pub slice_bounds-first-end : goal.slice_bounds-first-end
slice_bounds-first-end c =
    let a = c.args in
    let m = c.room_of in
    first-inside a.grid a.level a.start.now a.losses.now a.factor a.labels.now a.answer.now
    c.requires m.result m.ensures.0 c.start_of-first.result c.start_of-first.ensures

pub slice_bounds-run_level-end : goal.slice_bounds-run_level-end
slice_bounds-run_level-end c = sym (length-take-le _ _ (let a = c.args in
    let m = c.room_of in
    first-inside a.grid a.level a.start.now a.losses.now a.factor a.labels.now a.answer.now
    c.requires m.result m.ensures.0 c.start_of-first.result c.start_of-first.ensures))

pub slice_bounds-run_level-end-2 : goal.slice_bounds-run_level-end-2
slice_bounds-run_level-end-2 c = c.requires.points

pub slice_bounds-run_level-end-3 : goal.slice_bounds-run_level-end-3
slice_bounds-run_level-end-3 c =
    sym (length-take-le _ _ c.requires.points)

pub offset_bounds-answer-at : goal.offset_bounds-answer-at
offset_bounds-answer-at c = omega (arith, at_small (goal.at.offset_bounds-answer-at c).After-room_of)

pub slice_bounds-run_level-count : goal.slice_bounds-run_level-count
slice_bounds-run_level-count c =
    let a = c.args in
    let m = c.room_of in
    let f = c.start_of-first in
    begins a.grid a.level a.start.now a.losses.now a.factor a.labels.now a.answer.now c.requires
    m.result m.ensures.0 f.result f.ensures

pub slice_bounds-run_level-start : goal.slice_bounds-run_level-start
slice_bounds-run_level-start c = (let a = c.args in
    let m = c.room_of in
    let f = c.start_of-first in
    begins a.grid a.level a.start.now a.losses.now a.factor a.labels.now a.answer.now c.requires
    m.result m.ensures.0 f.result f.ensures)

pub run_level-requires : goal.run_level-requires
run_level-requires c =
    let a = c.args in
    let m = c.room_of in
    let f = c.start_of-first in
    can-run a.grid a.level a.start.now a.losses.now a.factor a.labels.now a.answer.now c.requires
    m.result m.ensures.0 f.result f.ensures

pub returns : goal.returns
returns c =
    let a = c.args in
    let m = c.room_of in
    let f = c.start_of-first in
    let r = c.run_level in record {
      level = level_told a.grid a.level a.start.now a.losses.now a.factor a.labels.now a.answer.now
          c.requires m.result m.ensures.0 f.result f.ensures r.result r.ensures.level;
      labels = labels_told a.grid a.level a.start.now a.losses.now a.factor a.labels.now a.answer.now
          c.requires m.result m.ensures.0 f.result f.ensures _ r.ensures.labels;
      answer = answer_told a.grid a.level a.start.now a.losses.now a.factor a.labels.now a.answer.now
          c.requires m.result m.ensures.0 f.result f.ensures _ r.ensures.answer;
    }
