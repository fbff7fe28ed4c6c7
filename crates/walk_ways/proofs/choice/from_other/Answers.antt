-- `choice::from_other` meets its contract. Assumes nothing.
use mathlib.Core.Path.{◌≡◌, sym, ap, ◌∙◌}
use Prim.Native.Nat.{suc, ◌-◌}
use Rattle.walk_ways.proofs.Chosen.{Tried, can_move, can_tell, long-o, refused-is, told_is, tried_back}
use Rattle.walk_ways.proofs.Chosen.{tried_on}
use Rattle.walk_ways.proofs.Decided.{back, other_16, other_20, other_20_unknown, other-back, other-on}
use Rattle.walk_ways.specs.Standing.{leads_back}
use Rattle.walk_ways.specs.declared.Move.{Move}
use native.Mathlib.Omega.{arith}
use Rattle.walk_ways.proofs.choice.from_other.Goals as goal
use Rattle.walk_ways.proofs.choice.from_other.Goals.{After-leads_back, After-leads_back-2, Start}

-- the place has more than one point
some : (c : Start) → c.args.here.count ≡ suc (c.args.here.count - 1)
some c = omega (arith, c.requires.standing.1)

-- the move with which the point leaves, and the one with which it stays
leaves : (c : Start) → Tried c.requires.standing.0 c.requires.round_of 6
leaves c = tried_back c.requires.standing.0 c.requires.round_of (some c) 6 (omega arith)

stays : (c : Start) → Tried c.requires.standing.0 c.requires.round_of c.args.here.rule
stays c =
    let S = c.requires.standing.0 in
    tried_on S c.requires.round_of (some c) c.args.here.rule S.came_in

pub way-a-requires : goal.way-a-requires
way-a-requires c =
    let start = (goal.at.way-a-requires c).Start in
    can_move c.requires.standing.0 c.requires.round_of 6 (leaves start)

first_leads : (c : After-leads_back)
    → let start = (goal.at.After-leads_back c).Start in
    back c.requires.standing.0 (some start) c.requires.round_of c.leads_back.ensures.1 6 ≡ c.leads_back.result
first_leads c =
    ap (λ (v : Move). leads_back v c.args.w.before) (sym c.way-a.ensures)
    ∙ sym c.leads_back.ensures.0

pub returns-then-unknown : goal.returns-then-unknown
returns-then-unknown c =
    let at = goal.at.returns-then-unknown c in
    let here = other_16 c.requires.standing.0 (some at.Start) c.requires.round_of c.leads_back.ensures.1 in
    c.refused.ensures
    ∙ refused-is c.args.g c.args.w c.args.labels.now 16
    (here (first_leads at.After-leads_back ∙ c.if-leads_back.true) c.if-unknown.true)

pub way-on-requires : goal.way-on-requires
way-on-requires c =
    let start = (goal.at.way-on-requires c).Start in
    can_move c.requires.standing.0 c.requires.round_of c.args.here.rule (stays start)

pub told-requires : goal.told-requires
told-requires c =
    let S = c.requires.standing.0 in
    let R = stays (goal.at.told-requires c).Start in
    (S.made, rw c.way-on.ensures (can_tell S c.requires.round_of c.args.here.rule R), long-o S)

pub returns-then-leads_back : goal.returns-then-leads_back
returns-then-leads_back c =
    let at = goal.at.returns-then-leads_back c in
    let S = c.requires.standing.0 in
    let N = c.requires.round_of in
    c.told.ensures
    ∙ rw c.way-on.ensures
    (told_is S N c.args.here.rule (stays at.Start)
    (other-on S (some at.Start) N c.leads_back.ensures.1
    (first_leads at.After-leads_back ∙ c.if-leads_back.true) c.if-unknown.false))

pub returns-then-unknown-2 : goal.returns-then-unknown-2
returns-then-unknown-2 c =
    let at = goal.at.returns-then-unknown-2 c in
    let here = other_20_unknown c.requires.standing.0 (some at.Start) c.requires.round_of c.leads_back.ensures.1 in
    c.refused-then-unknown-2.ensures
    ∙ refused-is c.args.g c.args.w c.args.labels.now 20
    (here (first_leads at.After-leads_back ∙ c.if-leads_back.false) c.if-unknown-2.true)

pub way-b-requires : goal.way-b-requires
way-b-requires c =
    let start = (goal.at.way-b-requires c).Start in
    can_move c.requires.standing.0 c.requires.round_of c.args.here.rule (stays start)

second-leads : (c : After-leads_back-2)
    → let start = (goal.at.After-leads_back-2 c).Start in
    back c.requires.standing.0 (some start) c.requires.round_of c.leads_back.ensures.1 c.args.here.rule
    ≡ c.leads_back-2.result
second-leads c =
    ap (λ (v : Move). leads_back v c.args.w.before) (sym c.way-b.ensures)
    ∙ sym c.leads_back-2.ensures.0

pub told-requires-then-leads_back-2 : goal.told-requires-then-leads_back-2
told-requires-then-leads_back-2 c =
    let S = c.requires.standing.0 in
    let R = leaves (goal.at.told-requires-then-leads_back-2 c).Start in
    (S.made, rw c.way-a.ensures (can_tell S c.requires.round_of 6 R), long-o S)

pub returns-then-leads_back-2 : goal.returns-then-leads_back-2
returns-then-leads_back-2 c =
    let at = goal.at.returns-then-leads_back-2 c in
    let S = c.requires.standing.0 in
    let N = c.requires.round_of in
    c.told-then-leads_back-2.ensures
    ∙ rw c.way-a.ensures
    (told_is S N 6 (leaves at.Start)
    (other-back S (some at.Start) N c.leads_back.ensures.1
    (second-leads at.After-leads_back-2 ∙ c.if-leads_back-2.true) c.if-unknown-2.false))

pub returns : goal.returns
returns c =
    let at = goal.at.returns c in
    let here = other_20 c.requires.standing.0 (some at.Start) c.requires.round_of c.leads_back.ensures.1 in
    c.refused-2.ensures
    ∙ refused-is c.args.g c.args.w c.args.labels.now 20
    (here (first_leads at.After-leads_back ∙ c.if-leads_back.false)
    (second-leads at.After-leads_back-2 ∙ c.if-leads_back-2.false) c.if-unknown-2.false)
