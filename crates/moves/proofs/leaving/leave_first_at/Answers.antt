-- `leave_first_at` meets its contract: a facet end, rule 2 or rule 1. Assumes nothing.
use Rattle.std.proofs.Common.{◌≡◌, refl, sym, ap, ◌∙◌, length, take, arith}
use lib.Seq.{length-take-le}
use Rattle.moves.specs.Held.{state_of}
use Rattle.rules.specs.Moves.{State, goes}
use Rattle.moves.proofs.Cases.{same-state, facet-end, U-gains, first-leaves}
use Rattle.moves.proofs.leaving.leave_first_at.Goals as goal
use Rattle.moves.proofs.leaving.leave_first_at.Goals.{Start}

-- the state
abbrev place : Start → State
place c = state_of c.args.round.now c.args.held.now c.args.s

long : (c : Start) → c.args.s.count ≡ length (take c.args.s.count c.args.held.now.order)
long c = sym (length-take-le c.args.s.count c.args.held.now.order (omega arith))

pub returns-then-is_filled : goal.returns-then-is_filled
returns-then-is_filled c =
    let f = c.requires.ready.0 in
    facet-end (place (goal.at.returns-then-is_filled c).Start) f.at_h f.at_b
    (sym c.vanishes.ensures ∙ c.if-vanishes.true)
    (sym c.is_filled.ensures ∙ c.if-is_filled.true)

pub returns-then-vanishes : goal.returns-then-vanishes
returns-then-vanishes c =
    let f = c.requires.ready.0 in
    let g = c.go_forward.ensures in
    let start = (goal.at.returns-then-vanishes c).Start in
    ap (λ (x : State). goes x) (same-state _ 2 g.point g.list g.steps g.marked refl c.add.ensures (long start))
    ∙ U-gains (place start) f.at_h f.at_b
    (sym c.vanishes.ensures ∙ c.if-vanishes.true)
    (sym c.is_filled.ensures ∙ c.if-is_filled.false)

pub returns : goal.returns
returns c =
    let f = c.requires.ready.0 in
    let g = c.go_forward-2.ensures in
    let start = (goal.at.returns c).Start in
    ap (λ (x : State). goes x) (same-state _ 1 g.point g.list g.steps g.marked refl refl (long start))
    ∙ first-leaves (place start) f.at_h f.at_b (sym c.vanishes.ensures ∙ c.if-vanishes.false)
