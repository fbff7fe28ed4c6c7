-- `nearest_pass::pass_noting` meets its contract. Assumes nothing.
use mathlib.Core.Path.{◌≡◌, sym, ap, ◌∙◌}
use Prim.Native.Nat.{suc, ◌+◌, ◌-◌}
use lib.ListN.{length, take}
use native.Mathlib.Omega.{arith}
use Rattle.combinatorics.proofs.EditsOfArrays.{counted}
use Rattle.combinatorics.specs.Front.{front}
use Rattle.path_pass.proofs.Places.{IsRead}
use Rattle.path_pass.proofs.Visits.{spends}
use Rattle.path_pass.proofs.Passing.{MovesTo, Place, asks, can_look, counted-on, facet-ends, has_looked, labels-fit}
use Rattle.path_pass.proofs.Passing.{onward, passes-first, passes_on, place-ends, stands}
use Rattle.path_pass.specs.Finish.{problem_in}
use Rattle.grid_points.specs.Grid.{at as grid_at, position}
use Rattle.grid.specs.Made.{shape}
use Rattle.marks.specs.Reading.{table_problem}
use Rattle.moves.specs.Held.{answered}
use Rattle.moves.specs.declared.Outcome.{Outcome}
use Rattle.place.specs.Path.{path as path_of, path_length}
use Rattle.place.specs.Problem.{Problem}
use Rattle.rules.specs.Read.{position_at}
use Rattle.rules.specs.Moves.{State, mark_position, make_move}
use Rattle.nearest_met.proofs.Keeping.{kept-none}
use Rattle.nearest_pass.proofs.Noting.{all_met, come-is, computed, kept_met, last-facet, last-place, read-come}
use Rattle.nearest_pass.proofs.Noting.{read-computed, room_next}
use Rattle.nearest_pass.specs.Survey.{some_vertex}
use Rattle.nearest_met.specs.declared.Tally.{Tally}
use Rattle.nearest_visited.specs.Nearest.{nearest, positions_within}
use Rattle.nearest_met.specs.Meeting.{Kept, vertex_come}
use Rattle.nearest_visited.proofs.Nearest.{grid-accepted}
use Rattle.nearest_visited.specs.Visited.{vertices_of}
use Rattle.nearest_pass.proofs.pass_noting.Goals as goal
use Rattle.nearest_pass.proofs.pass_noting.Goals.{After-came_in-came, After-make_move, In-loop-left, In_default}

pub loop-left-init : goal.loop-left-init
loop-left-init c =
    let a = c.args in
    let w = c.requires.can_pass in
    let n = c.requires.can_note in
    let none : a.budget - a.budget ≡ 0 = omega arith in
    record {
      passing = rw none (passes-first a.g w.readable.made a.held.now c.begun-at.new.held a.table.now w.accepted
          w.is_round c.begun-at.result c.begun-at.ensures);
      kept = rw (none, c.none_met-t.ensures)
          (kept-none (shape a.g) (grid-accepted w.accepted) a.w.now n.on_grid a.given a.list.now n.room);
    }

abbrev place : In-loop-left → Place
place c =
    let a = c.args in
    let w = c.requires.can_pass in
    let l = c.loop-left in
    let tails = c.tails-tails in
    record {
      g = a.g;
      made = w.readable.made;
      start = a.held.now.first;
      table = a.table.now;
      ok = w.accepted;
      round = a.round.now;
      held = l.held;
      budget = a.budget;
      visited = a.budget - l.left;
      stand = l.at;
      passing = l.invariant.passing;
      more = omega arith;
      below = w.below;
      tails = tails.result;
      sums = tails.ensures;
    }

pub look_up-requires-clause-can_find : goal.look_up-requires-clause-can_find
look_up-requires-clause-can_find c = can_look (place (goal.at.look_up-requires-clause-can_find c).In-loop-left)

-- the places visited before this one, as the code works them out
number : (c : In-loop-left) → c.args.budget - (c.loop-left.left - 1) - 1 ≡ (place c).visited
number c = omega arith

pub returns-in-Err-clause-finished : goal.returns-in-Err-clause-finished
returns-in-Err-clause-finished c =
    let at = (goal.at.returns-in-Err-clause-finished c).In-loop-left in
    rw (c.unreported.ensures.0, c.asked.ensures, number at) (asks (place at) c.in-Err.ensures.0)

told : (c : In_default)
    → let P = place (goal.at.In_default c).In-loop-left in
    IsRead (table_problem P.g P.table) (stands P) P.round c.look_up.new.held P.stand.status
told c = has_looked (place (goal.at.In_default c).In-loop-left) c.look_up.new.held {x = c.in_default.field-0}
    c.in_default.ensures

pub came_in-came-requires : goal.came_in-came-requires
came_in-came-requires c =
    let P = place (goal.at.came_in-came-requires c).In-loop-left in
    let can = computed P.g P.start P.table P.ok (stands P) P.visited P.passing.here in
    let many = counted P.held.order P.stand.status.count P.held.order_long can.few in
    (omega (arith, can.low, many), omega (arith, can.few, many))

-- the vertex that has come in, by the mark read of its point
came-is : (c : After-came_in-came)
    → let P = place (goal.at.After-came_in-came c).In-loop-left in
    c.came_in-came.result ≡ vertex_come (shape P.g) (stands P)
came-is c =
    let P = place (goal.at.After-came_in-came c).In-loop-left in
    let R = told (goal.at.After-came_in-came c).In_default in
    let s = P.stand.status in
    c.came_in-came.ensures
    ∙ come-is P.g P.start P.table P.ok (stands P) P.visited P.passing.here R.known
    (mark_position (grid_at (take (suc s.count) c.look_up.new.held.marks) s.active))
    (ap (λ (x : State). position_at x x.active) R.is)

pub meet-t-requires : goal.meet-t-requires
meet-t-requires c =
    let a = c.args in
    let n = c.requires.can_note in
    let at = (goal.at.meet-t-requires c).After-came_in-came in
    let P = place (goal.at.meet-t-requires c).In-loop-left in
    let R = told (goal.at.meet-t-requires c).In_default in
    record {
      indices_below = (
        P.below.backward,
        read-computed P.g P.start P.table P.ok (stands P) P.visited P.passing.here R.is,
      );
      can_measure = (
        shape P.g,
        n.measure,
        rw (came-is at, read-come P.g P.start P.table P.ok (stands P) P.visited P.passing.here R.is)
            (room_next P.g P.start P.table P.ok (stands P) P.visited P.passing.here a.w.now
            n.on_grid a.given a.list.now n.room c.loop-left.invariant.kept),
      );
    }

pub make_move-requires : goal.make_move-requires
make_move-requires c =
    record { below = c.requires.can_pass.below; ready = (told (goal.at.make_move-requires c).In_default).ready }

-- what it gives, by its outcome: the step from the place
abbrev here : After-make_move → Place
here c = place (goal.at.After-make_move c).In-loop-left

steps : (c : After-make_move) (o : Outcome) → c.make_move.result ≡ o → MovesTo (here c) c.make_move.new.held o
steps c o e =
    let R = told (goal.at.After-make_move c).In_default in record {
      known = R.known;
      moves = ap (λ (x : Outcome). answered (here c).round c.make_move.new.held (here c).stand.status x) (sym e)
          ∙ c.make_move.ensures ∙ ap make_move R.is;
    }

abbrev problem : After-make_move → Problem
problem c =
    let P = here c in
    problem_in P.g P.start P.table

-- what is kept with the vertex
met : (c : After-make_move)
    → let a = c.args in
    Kept (shape a.g) a.w.now a.given a.list.now
    (vertices_of (take (suc (here c).visited) (path_of (problem c)).visited)) c.meet-t.new.seen c.meet-t.new.list
    c.meet-t.result
met c =
    let P = here c in
    let a = c.args in
    let n = c.requires.can_note in
    let R = told (goal.at.After-make_move c).In_default in
    let H = rw (read-come P.g P.start P.table P.ok (stands P) P.visited P.passing.here R.is)
    at (c.meet-t.ensures (shape a.g) n.measure) in
    kept_met P.g P.start P.table P.ok (stands P) P.visited P.passing.here a.w.now n.on_grid
    a.given a.list.now n.room c.loop-left.invariant.kept
    (came-is (goal.at.After-make_move c).After-came_in-came)
    H.tally H.marks H.written

-- at the path's last place all visited vertices have been met
abbrev tally : After-make_move → Tally
tally c = c.meet-t.result

surveyed : (c : After-make_move) → path_length (problem c) ≡ suc (here c).visited
    → let a = c.args in
    let p = problem c in
    (some_vertex (tally c).nearest (tally c).listed
    ≡ some_vertex (position p.grid (nearest p a.w.now)) (length (positions_within p a.w.now a.given)))
    × (c.meet-t.new.list ≡ front (positions_within p a.w.now a.given) a.list.now)
surveyed c whole =
    let P = here c in
    let a = c.args in
    all_met P.g P.start P.table P.ok P.visited whole a.w.now a.given a.list.now (met c)

pub on-at-requires : goal.on-at-requires
on-at-requires c =
    let at = (goal.at.on-at-requires c).After-make_move in labels-fit (here at) (steps at _ c.in-Moved.is)

pub returns-in-PlaceEnd : goal.returns-in-PlaceEnd
returns-in-PlaceEnd c =
    let at = (goal.at.returns-in-PlaceEnd c).After-make_move in
    let P = here at in
    let M = steps at _ c.in-PlaceEnd.is in
    let count = number (goal.at.returns-in-PlaceEnd c).In-loop-left in
    rw (c.reported.ensures.0, c.reported.ensures.1, c.ended.ensures, count) record {
      finished = place-ends P M;
      surveys = surveyed at (last-place P.g P.start P.table P.ok P.visited _ _ P.passing.here.1 (onward P M));
    }

pub returns-in-FacetEnd : goal.returns-in-FacetEnd
returns-in-FacetEnd c =
    let at = (goal.at.returns-in-FacetEnd c).After-make_move in
    let P = here at in
    let M = steps at _ c.in-FacetEnd.is in
    let count = number (goal.at.returns-in-FacetEnd c).In-loop-left in
    rw (c.reported-in-FacetEnd.ensures.0, c.reported-in-FacetEnd.ensures.1, c.ended-in-FacetEnd.ensures, count) record {
      finished = facet-ends P M;
      surveys = surveyed at (last-facet P.g P.start P.table P.ok P.visited _ _ P.passing.here.1 (onward P M));
    }

pub loop-left-preserved : goal.loop-left-preserved
loop-left-preserved c =
    let at = (goal.at.loop-left-preserved c).After-make_move in
    let next : c.args.budget - (c.loop-left.left - 1) ≡ (here at).visited + 1 = omega arith in
    rw next record {
      passing = passes_on (here at) (steps at _ c.in-Moved.is) c.on-at.ensures;
      kept = rw (counted-on (here at)) (met at);
    }

pub returns-clause-finished : goal.returns-clause-finished
returns-clause-finished c =
    let a = c.args in
    let w = c.requires.can_pass in
    let l = c.loop-left in
    rw c.unreported-2.ensures.0 (spends a.g w.readable.made a.held.now.first a.table.now w.accepted _
    (a.budget - l.left) l.invariant.passing.here a.budget (omega arith))
