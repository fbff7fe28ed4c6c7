-- `choice::from_start` meets its contract. Assumes nothing.
use mathlib.Core.Path.{◌≡◌, sym, ap, ◌∙◌}
use Rattle.walk_ways.proofs.Chosen.{Tried, can_move, can_tell, long-o, refused-is, told_is, tried_start}
use Rattle.walk_ways.proofs.Decided.{start_16, start_20, start-on}
use Rattle.walk_places.specs.Walks.{nowhere, same_place}
use native.Mathlib.Omega.{arith}
use Rattle.walk_ways.proofs.choice.from_start.Goals as goal
use Rattle.walk_ways.proofs.choice.from_start.Goals.{After-same_place, Start}

-- whether there is no place before
alone : (c : After-same_place)
    → same_place c.args.w.before nowhere ≡ c.same_place.result
alone c = ap (same_place c.args.w.before) (sym c.none.ensures)
    ∙ sym c.same_place.ensures.0

pub returns-then-not-same_place : goal.returns-then-not-same_place
returns-then-not-same_place c =
    let some = alone (goal.at.returns-then-not-same_place c).After-same_place ∙ c.if-not-same_place.true in
    c.refused.ensures
    ∙ refused-is c.args.g c.args.w c.args.labels.now 20 (start_20 c.requires.standing.0 c.requires.standing.1 some)

pub returns-then-unknown : goal.returns-then-unknown
returns-then-unknown c =
    let none = alone (goal.at.returns-then-unknown c).After-same_place ∙ c.if-not-same_place.false in
    c.refused-then-unknown.ensures
    ∙ refused-is c.args.g c.args.w c.args.labels.now 16
    (start_16 c.requires.standing.0 c.requires.standing.1 none c.if-unknown.true)

-- its label joins T
joins : (c : Start) → Tried c.requires.standing.0 c.requires.round_of c.args.here.rule
joins c =
    let S = c.requires.standing.0 in
    let none = c.requires.standing.1 in
    tried_start S c.requires.round_of none (omega (arith, S.low, none)) c.args.here.rule S.came_in

pub way-on-requires : goal.way-on-requires
way-on-requires c =
    can_move c.requires.standing.0 c.requires.round_of c.args.here.rule (joins (goal.at.way-on-requires c).Start)

pub told-requires : goal.told-requires
told-requires c =
    let S = c.requires.standing.0 in
    let R = joins (goal.at.told-requires c).Start in
    (S.made, rw c.way-on.ensures (can_tell S c.requires.round_of c.args.here.rule R), long-o S)

pub returns : goal.returns
returns c =
    let S = c.requires.standing.0 in
    let N = c.requires.round_of in
    c.told.ensures
    ∙ rw c.way-on.ensures
    (told_is S N c.args.here.rule (joins (goal.at.returns c).Start) (start-on S c.requires.standing.1 N
    (alone (goal.at.returns c).After-same_place ∙ c.if-not-same_place.false)
    c.if-unknown.false))
