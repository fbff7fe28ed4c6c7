-- `leave` meets its contract: the first, a middle or the last point. Assumes nothing.
use Rattle.std.proofs.Common.{ap, ◌∙◌}
use Rattle.combinatorics.proofs.EditsOfArrays.{counted}
use Rattle.moves.specs.Held.{state_of}
use Rattle.moves.proofs.Cases.{is-first, is_middle, is_last}
use Rattle.rules.specs.Moves.{State, goes}
use Rattle.moves.proofs.leaving.leave.Goals as goal

pub returns-then-i-eq0 : goal.returns-then-i-eq0
returns-then-i-eq0 c =
    let a = c.args in
    c.leave_first.ensures ∙ is-first (state_of a.round.now a.held.now a.s) a.i c.if-i-eq0.true

pub returns-then-i-s : goal.returns-then-i-s
returns-then-i-s c =
    let a = c.args in
    let n = counted a.held.now.order a.s.count a.held.now.order_long c.requires.ready.few in
    ap (λ (x : State). goes x) c.leave_middle.ensures
    ∙ is_middle (state_of a.round.now a.held.now a.s) a.i c.if-i-eq0.false (rw n c.if-i-s.true)

pub returns : goal.returns
returns c =
    let a = c.args in
    let n = counted a.held.now.order a.s.count a.held.now.order_long c.requires.ready.few in
    ap (λ (x : State). goes x) c.leave_last.ensures
    ∙ is_last (state_of a.round.now a.held.now a.s) a.i c.if-i-eq0.false (rw n c.if-i-s.false)
