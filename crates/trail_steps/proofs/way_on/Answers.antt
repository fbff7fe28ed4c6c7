-- `trail_steps::way_on` meets its contract, by the map byte. Assumes nothing.
use mathlib.Core.Path.{◌∙◌}
use Rattle.ways.specs.Ways.{held_marks}
use Rattle.trail_steps.proofs.Ways.{nothing_left, short_into, short-out, way_into, way_out}
use Rattle.trail_steps.proofs.way_on.Goals as goal

pub returns-then-room-eq0 : goal.returns-then-room-eq0
returns-then-room-eq0 c =
    let a = c.args in
    let s = held_marks a.marks.now a.s in
    let t = a.trail.now in
    nothing_left a.m a.s.count s t a.at c.if-room-eq0.true

pub returns-then-room-from : goal.returns-then-room-from
returns-then-room-from c =
    let a = c.args in
    let s = held_marks a.marks.now a.s in
    let t = a.trail.now in
    short-out a.m a.s.count s t a.at c.if-room-eq0.false
    c.from-byte.result c.from-byte.ensures c.if-byte-eq1.true c.if-room-from.true

pub returns-then-byte-eq1 : goal.returns-then-byte-eq1
returns-then-byte-eq1 c =
    let a = c.args in
    let s = held_marks a.marks.now a.s in
    let t = a.trail.now in
    c.leaving.ensures
    ∙ way_out a.m a.s.count s t a.at c.if-room-eq0.false
    c.from-byte.result c.from-byte.ensures
    c.if-byte-eq1.true c.if-room-from.false c.word.result
    c.word.ensures.0

pub returns-then-room-lt4 : goal.returns-then-room-lt4
returns-then-room-lt4 c =
    let a = c.args in
    let s = held_marks a.marks.now a.s in
    let t = a.trail.now in
    short_into a.m a.s.count s t a.at c.if-room-eq0.false
    c.from-byte.result c.from-byte.ensures c.if-byte-eq1.false c.if-room-lt4.true

pub returns : goal.returns
returns c =
    let a = c.args in
    let s = held_marks a.marks.now a.s in
    let t = a.trail.now in
    c.joining.ensures
    ∙ way_into a.m a.s.count s t a.at c.if-room-eq0.false
    c.from-byte.result
    c.from-byte.ensures c.if-byte-eq1.false
    c.if-room-lt4.false c.from.result c.from.ensures
