-- `put_points` meets its contract. Assumes nothing.
use Rattle.std.proofs.Common.{List, ◌≡◌, refl, sym, ap, ◌∙◌, ℕ, suc, ◌-◌, ◌*◌, ◌≤◌, length, take, arith}
use lib.Seq.{length-take-le}
use Rattle.combinatorics.proofs.Fronts.{front-none}
use Rattle.combinatorics.specs.Front.{front}
use Rattle.combinatorics.proofs.Lists.{row_room}
use Rattle.rules.specs.Read.{point_after, ReadyPoint}
use Rattle.rules.specs.Moves.{source}
use Rattle.rules.proofs.PointsAfter.{after_taken, few-ready, length-after, earlier-ready, in_row, same_rows}
use Rattle.rules.proofs.PointsAfter.{next-position, row_put}
use Rattle.moves.proofs.points.put_points.Invariants.{row}
use Rattle.moves.proofs.points.put_points.Goals as goal

pub loop-i-init : goal.loop-i-init
loop-i-init c =
    let a = c.args in
    let none : a.from - a.from ≡ 0 = omega arith in
    (rw none (sym (front-none a.buf.now)), rw none (omega arith), refl)

pub advance-requires : goal.advance-requires
advance-requires c =
    let a = c.args in
    let l = c.loop-i in
    let h = a.held.now in
    let from = source a.round.now a.s.u in
    let low : l.i ≤ a.s.count = omega (arith, c.loop-i-test.true) in
    let all : ReadyPoint from (take a.s.count h.order) h.first a.s.count = rw c.requires.1 at c.requires.0.points in
    let ready = earlier-ready from (take a.s.count h.order) h.first l.i a.s.count low all in
    record { indices_below = c.requires.0.below; ready_point = few-ready from h.order h.first a.s.count l.i low ready }

pub put_row-requires : goal.put_row-requires
put_row-requires c =
    let a = c.args in
    let l = c.loop-i in
    let all : (suc a.s.count - a.from) * a.m ≤ length a.buf.now = rw c.requires.1 at c.requires.0.fits in
    let fits = row_room (l.i - a.from) (suc a.s.count - a.from) a.m (length a.buf.now) (omega arith) all in
    (omega arith, c.requires.0.short)

pub overflow_add-position : goal.overflow_add-position
overflow_add-position c =
    let a = c.args in
    let l = c.loop-i in
    let all : (suc a.s.count - a.from) * a.m ≤ length a.buf.now = rw c.requires.1 at c.requires.0.fits in
    let fits = row_room (l.i - a.from) (suc a.s.count - a.from) a.m (length a.buf.now) (omega arith) all in
    omega arith

pub loop-i-preserved : goal.loop-i-preserved
loop-i-preserved c =
    let a = c.args in
    let l = c.loop-i in
    let h = a.held.now in
    let from = source a.round.now a.s.u in
    let points = point_after from h.order h.first in
    let long = length-after from h.order h.first in
    let all : (suc a.s.count - a.from) * a.m ≤ length a.buf.now = rw c.requires.1 at c.requires.0.fits in
    let fits = row_room (l.i - a.from) (suc a.s.count - a.from) a.m (length a.buf.now) (omega arith) all in
    let short : (j : ℕ) → a.m ≤ length (points j) = λ j.
    rw (long j) (omega (arith, c.requires.0.short, c.requires.0.first_length)) in
    let point = c.advance.ensures ∙ sym (after_taken from h.order h.first l.i l.i (omega arith)) in
    let put = row_put (row from h.first h.order a.m) a.m a.from (λ j. length-take-le a.m (points j) (short j))
    l.i l.position l.buf a.buf.now (points l.i) (omega arith) l.invariant.0 l.invariant.1 fits
    (short l.i) refl in (
      c.put_row.ensures ∙ rw point put,
      next-position l.i a.from a.m l.position (omega arith) l.invariant.1,
      c.put_row.auto.buf ∙ l.invariant.2,
    )

pub returns : goal.returns
returns c =
    let a = c.args in
    let l = c.loop-i in
    let h = a.held.now in
    let from = source a.round.now a.s.u in
    let steps = take a.s.count h.order in
    let n : length steps ≡ a.s.count = c.requires.1 in
    let k : l.i - a.from ≡ suc (length steps) - a.from = omega arith in
    let rows = same_rows (row from h.first h.order a.m) (row from h.first steps a.m)
    a.from (l.i - a.from)
    (λ j m. ap (take a.m) (after_taken from h.order h.first a.s.count j (omega arith))) in record {
      value = omega arith;
      buf_after = l.invariant.0
          ∙ ap (λ (x : List ℕ). front x a.buf.now) rows
          ∙ ap (λ (k : ℕ). front (in_row (row from h.first steps a.m) a.from k) a.buf.now) k;
    }
