-- `leave_last_at` meets its contract: rule 6, 7, 3 or 1. Assumes nothing.
use Rattle.std.proofs.Common.{true, false, cond, ◌≡◌, refl, sym, ◌∙◌, length, take, arith}
use lib.Seq.{length-take-le}
use Rattle.moves.specs.Held.{state_of}
use Rattle.rules.specs.Mask.{bit}
use Rattle.rules.specs.Moves.{State}
use Rattle.moves.proofs.Cases.{T-loses, last-leaves, last-to-U, same-state}
use Rattle.moves.proofs.leaving.leave_last_at.Goals as goal
use Rattle.moves.proofs.leaving.leave_last_at.Goals.{Start, then-has, else-has}

abbrev place : Start → State
place c = state_of c.args.round.now c.args.held.now c.args.s

long : (c : Start) → c.args.s.count ≡ length (take c.args.s.count c.args.held.now.order)
long c = sym (length-take-le c.args.s.count c.args.held.now.order (omega arith))

pub returns-then-held-h-eq0 : goal.returns-then-held-h-eq0
returns-then-held-h-eq0 c =
    let start = (goal.at.returns-then-held-h-eq0 c).Start in
    c.shrink.ensures c.args.round.now
    ∙ last-to-U (place start) (long start) c.requires.ready.0.at_h c.if-held-h-eq0.true

pub returns-then-held-h-eq0-2 : goal.returns-then-held-h-eq0-2
returns-then-held-h-eq0-2 c =
    let start = (goal.at.returns-then-held-h-eq0-2 c).Start in
    c.shrink-then-held-h-eq0-2.ensures c.args.round.now
    ∙ T-loses (place start) (long start) c.requires.ready.0.at_h c.if-held-h-eq0.false c.if-held-h-eq0-2.true

pub returns : goal.returns
returns c =
    let g = c.go_back.ensures in
    let start = (goal.at.returns c).Start in
    let rule : cond (bit c.args.s.u c.first_outside_or_zero-b.result) 3 1 ≡ c.if-has.rule = elim c.if-has.branch [
      | then-has w ↦ rw (← c.has.ensures, w.if-has.true) (sym w.rule-is)
      | else-has w ↦ rw (← c.has.ensures, w.if-has.false) (sym w.rule-is)
    ] in
    same-state _ _ g.point g.list g.steps g.marked refl c.without.ensures refl
    ∙ last-leaves (place start) (long start) c.requires.ready.0.at_h c.first_outside_or_zero-b.ensures.0
    c.if-held-h-eq0.false c.if-held-h-eq0-2.false _ rule
