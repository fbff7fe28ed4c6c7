-- `pass` meets its contract. Assumes nothing.
use Rattle.std.proofs.Common.{◌≡◌, refl, sym, ap, ◌∙◌, subst, take, ℕ, ◌+◌, ◌-◌, ◌<◌, arith}
use Rattle.game_weighed.specs.Levels.{game_grid}
use Rattle.moves.specs.Held.{answered, state_of}
use Rattle.moves.specs.declared.Outcome.{Outcome}
use Rattle.moves.specs.declared.Outcome.TheVariants.{Moved}
use Rattle.moves.specs.declared.Status.{Status}
use Rattle.path_pass.specs.declared.Stand.{Stand}
use Rattle.refinement_levels.specs.Levels.{game_problem}
use Rattle.rules.specs.Moves.{State, goes, make_move}
use Rattle.solve_pass.proofs.Passed.{Passing, begins, begins-reading, can_look, facet-ends, labels-fit}
use Rattle.solve_pass.proofs.Passed.{passes_on, place-ends, spends, spent-here}
use Rattle.solve_pass.specs.Bare.{labelled}
use Rattle.solve_pass.proofs.pass.Goals as goal
use Rattle.solve_pass.proofs.pass.Goals.{After-visit-outcome, In-loop-left}

pub begun-at-requires : goal.begun-at-requires
begun-at-requires c = omega (arith, c.requires.many, (c.requires.game _ c.requires.start).grid.few_indices)

pub loop-left-init : goal.loop-left-init
loop-left-init c =
    let a = c.args in
    let p = game_problem (game_grid a.game.now) (take a.indices a.held.now.first) a.game.now.losses.now in
    let B = c.begun-at.ensures in
    let none : a.budget - a.budget ≡ 0 = omega arith in
    rw none record {
      here = begins c.requires c.begun-at.new.held c.begun-at.result B;
      read = begins-reading p _ 1 B.labels refl;
    }

-- the place's number, from 0, which is below the budget, and as the code works it out
abbrev visited : In-loop-left → ℕ
visited c = c.args.budget - c.loop-left.left

more : (c : In-loop-left) → visited c < c.args.budget
more c = omega arith

number : (c : In-loop-left) → c.args.budget - (c.loop-left.left - 1) - 1 ≡ visited c
number c = omega arith

-- where the pass stands, and the state there
abbrev stand : After-visit-outcome → Stand
stand c = c.loop-left.at

abbrev place : After-visit-outcome → State
place c = let l = c.loop-left in state_of c.args.round.now l.held l.at.status

pub visit-outcome-requires : goal.visit-outcome-requires
visit-outcome-requires c =
    let l = c.loop-left in
    let at = (goal.at.visit-outcome-requires c).In-loop-left in
    can_look c.requires c.args.budget (visited at) l.at (state_of c.args.round.now l.held l.at.status) l.invariant
    (more at) c.requires.below

pub returns-in-PlaceEnd : goal.returns-in-PlaceEnd
returns-in-PlaceEnd c =
    let here = (goal.at.returns-in-PlaceEnd c).After-visit-outcome in
    let at = (goal.at.returns-in-PlaceEnd c).In-loop-left in
    let l = c.loop-left in
    rw (c.ended.ensures, number at) (place-ends c.requires c.args.budget (visited at) l.at (place here) l.invariant
    (more at) c.visit-outcome.new.held l.at.status c.in-PlaceEnd.index c.in-PlaceEnd.ensures)

pub returns-in-FacetEnd : goal.returns-in-FacetEnd
returns-in-FacetEnd c =
    let here = (goal.at.returns-in-FacetEnd c).After-visit-outcome in
    let at = (goal.at.returns-in-FacetEnd c).In-loop-left in
    let l = c.loop-left in
    rw (c.ended-in-FacetEnd.ensures, number at) (facet-ends c.requires c.args.budget (visited at) l.at (place here)
    l.invariant (more at) c.visit-outcome.new.held l.at.status c.in-FacetEnd.index c.in-FacetEnd.ensures)

-- where it has moved
abbrev next : After-visit-outcome → Status → State
next c status = state_of c.args.round.now c.visit-outcome.new.held status

moved : (c : After-visit-outcome) (status : Status) → c.visit-outcome.result ≡ Moved status
    → (let a = c.args in
    goes (next c status) ≡ make_move (labelled (game_grid a.game.now) a.game.now.losses.now (place c)))
moved c status e =
    ap (λ (o : Outcome). answered c.args.round.now c.visit-outcome.new.held (stand c).status o) (sym e)
    ∙ c.visit-outcome.ensures

pub returns-then-left-eq0 : goal.returns-then-left-eq0
returns-then-left-eq0 c =
    let here = (goal.at.returns-then-left-eq0 c).After-visit-outcome in
    let at = (goal.at.returns-then-left-eq0 c).In-loop-left in
    let l = c.loop-left in
    spent-here c.requires c.args.budget (visited at) l.at (place here) l.invariant (more at)
    (next here c.in-Moved.status) (moved here c.in-Moved.status c.in-Moved.is) (omega (arith, c.if-left-eq0.true))

pub on-at-requires : goal.on-at-requires
on-at-requires c =
    let here = (goal.at.on-at-requires c).After-visit-outcome in
    let at = (goal.at.on-at-requires c).In-loop-left in
    let l = c.loop-left in
    let few = labels-fit c.requires c.args.budget (visited at) l.at (place here) l.invariant (more at)
    (next here c.in-Moved.status) (moved here c.in-Moved.status c.in-Moved.is)
    (omega (arith, c.if-left-eq0.false)) in
    omega (arith, few, c.ranges.budget)

pub loop-left-preserved : goal.loop-left-preserved
loop-left-preserved c =
    let here = (goal.at.loop-left-preserved c).After-visit-outcome in
    let at = (goal.at.loop-left-preserved c).In-loop-left in
    let l = c.loop-left in
    let a = c.args in
    let p = game_problem (game_grid a.game.now) (take a.indices a.held.now.first) a.game.now.losses.now in
    let one_more : a.budget - (l.left - 1) ≡ visited at + 1 = omega arith in
    rw one_more (subst (λ (y : Stand). Passing p (visited at + 1) y (state_of a.round.now c.visit-outcome.new.held y.status))
    (sym c.on-at.ensures)
    (passes_on c.requires a.budget (visited at) l.at (place here) l.invariant (more at)
    (next here c.in-Moved.status) (moved here c.in-Moved.status c.in-Moved.is) _ refl))

pub returns : goal.returns
returns c =
    let l = c.loop-left in
    spends c.requires (c.args.budget - l.left) _ l.invariant.here c.args.budget (omega arith)
