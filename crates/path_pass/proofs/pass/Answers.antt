-- `pass` meets its contract. Assumes nothing.
use Rattle.std.proofs.Common.{◌≡◌, sym, ap, ◌∙◌, ◌+◌, ◌-◌, arith}
use Rattle.grid.proofs.Fields.{indices-few}
use Rattle.marks.specs.Reading.{table_problem}
use Rattle.moves.specs.Held.{answered}
use Rattle.moves.specs.declared.Outcome.{Outcome}
use Rattle.rules.specs.Moves.{make_move}
use Rattle.path_pass.proofs.Places.{IsRead}
use Rattle.path_pass.proofs.Visits.{spends}
use Rattle.path_pass.proofs.Passing.{MovesTo, Place, asks, can_look, facet-ends, has_looked, labels-fit}
use Rattle.path_pass.proofs.Passing.{passes-first, passes_on, place-ends, stands}
use Rattle.path_pass.proofs.pass.Goals as goal
use Rattle.path_pass.proofs.pass.Goals.{After-make_move, In-loop-left, In_default}

pub tails-tails-requires : goal.tails-tails-requires
tails-tails-requires c = indices-few c.args.g c.requires.readable.made

pub begun-at-requires : goal.begun-at-requires
begun-at-requires c = indices-few c.args.g c.requires.readable.made

pub loop-left-init : goal.loop-left-init
loop-left-init c =
    let a = c.args in
    let w = c.requires in
    let none : a.budget - a.budget ≡ 0 = omega arith in
    rw none (passes-first a.g w.readable.made a.held.now c.begun-at.new.held a.table.now w.accepted w.is_round
    c.begun-at.result c.begun-at.ensures)

abbrev place : In-loop-left → Place
place c =
    let a = c.args in
    let w = c.requires in
    let l = c.loop-left in
    let tails = c.tails-tails in
    record {
      g = a.g;
      made = w.readable.made;
      start = a.held.now.first;
      table = a.table.now;
      ok = w.accepted;
      round = a.round.now;
      held = l.held;
      budget = a.budget;
      visited = a.budget - l.left;
      stand = l.at;
      passing = l.invariant;
      more = omega arith;
      below = w.below;
      tails = tails.result;
      sums = tails.ensures;
    }

pub look_up-requires-clause-can_find : goal.look_up-requires-clause-can_find
look_up-requires-clause-can_find c = can_look (place (goal.at.look_up-requires-clause-can_find c).In-loop-left)

-- the places visited before this one, as the code works them out
number : (c : In-loop-left) → c.args.budget - (c.loop-left.left - 1) - 1 ≡ (place c).visited
number c = omega arith

pub returns-in-Err : goal.returns-in-Err
returns-in-Err c =
    let at = (goal.at.returns-in-Err c).In-loop-left in rw (c.asked.ensures, number at) (asks (place at) c.in-Err.ensures.0)

told : (c : In_default)
    → let P = place (goal.at.In_default c).In-loop-left in
    IsRead (table_problem P.g P.table) (stands P) P.round c.look_up.new.held P.stand.status
told c = has_looked (place (goal.at.In_default c).In-loop-left) c.look_up.new.held {x = c.in_default.field-0}
    c.in_default.ensures

pub make_move-requires : goal.make_move-requires
make_move-requires c = record { below = c.requires.below; ready = (told (goal.at.make_move-requires c).In_default).ready }

-- what it gives, by its outcome: the step from the place
abbrev here : After-make_move → Place
here c = place (goal.at.After-make_move c).In-loop-left

steps : (c : After-make_move) (o : Outcome) → c.make_move.result ≡ o → MovesTo (here c) c.make_move.new.held o
steps c o e =
    let R = told (goal.at.After-make_move c).In_default in record {
      known = R.known;
      moves = ap (λ (x : Outcome). answered (here c).round c.make_move.new.held (here c).stand.status x) (sym e)
          ∙ c.make_move.ensures ∙ ap make_move R.is;
    }

pub on-at-requires : goal.on-at-requires
on-at-requires c =
    let at = (goal.at.on-at-requires c).After-make_move in labels-fit (here at) (steps at _ c.in-Moved.is)

pub returns-in-PlaceEnd : goal.returns-in-PlaceEnd
returns-in-PlaceEnd c =
    let at = (goal.at.returns-in-PlaceEnd c).After-make_move in
    rw (c.ended.ensures, number (goal.at.returns-in-PlaceEnd c).In-loop-left)
    (place-ends (here at) (steps at _ c.in-PlaceEnd.is))

pub returns-in-FacetEnd : goal.returns-in-FacetEnd
returns-in-FacetEnd c =
    let at = (goal.at.returns-in-FacetEnd c).After-make_move in
    rw (c.ended-in-FacetEnd.ensures, number (goal.at.returns-in-FacetEnd c).In-loop-left)
    (facet-ends (here at) (steps at _ c.in-FacetEnd.is))

pub loop-left-preserved : goal.loop-left-preserved
loop-left-preserved c =
    let at = (goal.at.loop-left-preserved c).After-make_move in
    let next : c.args.budget - (c.loop-left.left - 1) ≡ (here at).visited + 1 = omega arith in
    rw next (passes_on (here at) (steps at _ c.in-Moved.is) c.on-at.ensures)

pub returns : goal.returns
returns c =
    let a = c.args in
    let w = c.requires in
    let l = c.loop-left in
    spends a.g w.readable.made a.held.now.first a.table.now w.accepted _ (a.budget - l.left) l.invariant.here a.budget
    (omega arith)
