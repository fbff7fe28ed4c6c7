-- `refinement::runs::start_of` meets its contract. Assumes nothing.
use Prim.Native.Nat.{◌-◌, ◌*◌, ◌≤◌}
use native.Mathlib.Omega.{arith}
use Rattle.grid.proofs.Fields.{indices-few}
use Rattle.refinement.proofs.LevelStarts.{ends-inside, part_fits, room-begins, start_first, start-later}
use Rattle.refinement.proofs.LevelStarts.{start-long}
use Rattle.refinement.proofs.runs.start_of.Goals as goal
use Rattle.refinement.proofs.runs.start_of.Goals.{After-room_of}

pub padded-requires : goal.padded-requires
padded-requires c =
    let a = c.args in (
      start-long a.grid c.requires.1 a.level a.start.now a.factor a.answer.now c.requires.0,
      indices-few
          a.grid c.requires.1,
    )

pub returns-then-level-eq0 : goal.returns-then-level-eq0
returns-then-level-eq0 c =
    let a = c.args in
    start_first a.grid c.requires.1 a.level a.start.now a.factor a.answer.now c.requires.0
    c.if-level-eq0.true c.padded.result c.padded.ensures

-- where the level before begins
at_small : (c : After-room_of) → (c.args.level - 1) * c.room_of.result ≤ 2176
at_small c =
    room-begins (c.args.level - 1) c.room_of.result (omega (arith, c.requires.0.few)) c.room_of.ensures.1

pub overflow_mul-at : goal.overflow_mul-at
overflow_mul-at c = omega (arith, at_small c)

pub overflow_add-at : goal.overflow_add-at
overflow_add-at c =
    omega (arith, at_small c, indices-few c.args.grid c.requires.1)

pub offset_bounds-answer-at : goal.offset_bounds-answer-at
offset_bounds-answer-at c = omega (arith, at_small c)

pub slice_bounds-scaled-end : goal.slice_bounds-scaled-end
slice_bounds-scaled-end c =
    let a = c.args in
    ends-inside a.grid c.requires.1 a.level a.start.now a.factor a.answer.now c.requires.0
    c.if-level-eq0.false c.room_of.result c.room_of.ensures.0

pub scaled-requires : goal.scaled-requires
scaled-requires c =
    let a = c.args in
    part_fits a.grid c.requires.1 a.level a.start.now a.factor a.answer.now c.requires.0
    c.if-level-eq0.false c.room_of.result c.room_of.ensures.0

pub returns : goal.returns
returns c =
    let a = c.args in
    start-later a.grid c.requires.1 a.level a.start.now a.factor a.answer.now c.requires.0
    c.if-level-eq0.false c.room_of.result c.room_of.ensures.0
    c.scaled.result c.scaled.ensures
