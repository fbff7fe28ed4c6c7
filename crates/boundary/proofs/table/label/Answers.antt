-- `label` meets its contract: no index passed has a 0 behind a positive number. Assumes nothing.
use Prim.Native.Nat.{ℕ, ◌≤◌, ◌<◌}
use lib.ListN.{length, get_or}
use native.Mathlib.Omega.{arith}
use Rattle.boundary.proofs.Turns.{before-inside, few, label_kept, label_met}
use Rattle.boundary.proofs.table.label.Goals as goal
use Rattle.boundary.proofs.table.label.Goals.{Start}

short : (c : Start) → length c.args.point.now ≤ 16
short c = let w = c.requires in few w.0 c.args.previous.now c.args.point.now w.1

inside : (c : Start) → (h : ℕ) → h < length c.args.point.now → get_or c.args.previous.now h 0 < length c.args.point.now
inside c = let w = c.requires in before-inside w.0 c.args.previous.now c.args.point.now w.1

pub bounds-previous-h : goal.bounds-previous-h
bounds-previous-h c = omega (arith, short (goal.at.bounds-previous-h c).Start)

pub bounds-point-from : goal.bounds-point-from
bounds-point-from c =
    let h = c.loop-h.h in
    omega (arith, c.from.ensures, inside (goal.at.bounds-point-from c).Start h (omega arith))

pub overflow_cast-result : goal.overflow_cast-result
overflow_cast-result c = omega (arith, short (goal.at.overflow_cast-result c).Start)

pub returns-then-point-from-ne0 : goal.returns-then-point-from-ne0
returns-then-point-from-ne0 c = λ g on.
    let l = c.loop-h in
    label_met g c.args.previous.now c.args.point.now on c.args.old l.h (omega arith) l.invariant
    c.if-x-eq0.true (λ z. c.if-point-from-ne0.true (rw c.from.ensures z))

pub returns : goal.returns
returns c = λ g on.
    let l = c.loop-h in
    label_kept g c.args.previous.now c.args.point.now on c.args.old (λ k h. l.invariant k (omega arith))
