-- `trail_records::stands` meets its contract. The invariant: the bytes before k are the same. Assumes nothing.
use mathlib.Core.Path.{sym, ◌∙◌}
use lib.ListN.{drop, length-drop, take}
use lib.Seq.{get_or-drop, length-take-le}
use native.Mathlib.Numerals.{add-one}
use native.Mathlib.Omega.{arith}
use Rattle.trail_records.proofs.Begins.{begins-done, begins-other, begins-same, begins-short}
use Rattle.trail_records.proofs.stands.Goals as goal

pub returns-then-trail-at : goal.returns-then-trail-at
returns-then-trail-at c =
    let a = c.args in
    sym (begins-short (take a.made.length a.made.bytes) (drop a.at a.trail.now)
    (omega (
      arith,
      length-drop a.at a.trail.now,
      length-take-le a.made.length a.made.bytes
          (omega (arith, c.requires.1, c.requires.2)),
      c.if-trail-at.true,
    )))

pub returns-then-trail-at-2 : goal.returns-then-trail-at-2
returns-then-trail-at-2 c =
    let a = c.args in
    let l = c.loop-k in
    let bytes = take a.made.length a.made.bytes in
    let long = length-take-le a.made.length a.made.bytes (omega (arith, c.requires.1, c.requires.2)) in
    sym (begins-other bytes (drop a.at a.trail.now) l.k c.loop-k-test.true
    (omega (arith, length-drop a.at a.trail.now, long, c.if-trail-at.false))
    (λ e. c.if-trail-at-2.true (sym (get_or-drop a.at a.trail.now l.k 0) ∙ e))) ∙ l.invariant

pub loop-k-preserved : goal.loop-k-preserved
loop-k-preserved c =
    let a = c.args in
    let l = c.loop-k in
    let bytes = take a.made.length a.made.bytes in
    let long = length-take-le a.made.length a.made.bytes (omega (arith, c.requires.1, c.requires.2)) in
    let same = begins-same bytes (drop a.at a.trail.now) l.k c.loop-k-test.true
    (omega (arith, length-drop a.at a.trail.now, long, c.if-trail-at.false))
    (get_or-drop a.at a.trail.now l.k 0 ∙ c.if-trail-at-2.false) in
    rw (add-one l.k) (sym same ∙ l.invariant)

pub returns : goal.returns
returns c =
    let a = c.args in
    let l = c.loop-k in
    sym (begins-done (take a.made.length a.made.bytes) (drop l.k (drop a.at a.trail.now)) l.k c.loop-k-test.false)
    ∙ l.invariant
