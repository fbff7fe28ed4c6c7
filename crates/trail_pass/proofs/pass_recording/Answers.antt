-- `trail_pass::pass_recording` meets its contract. Assumes nothing.
use Rattle.std.proofs.Common.{cond, List, ◌≡◌, refl, sym, ap, ◌∙◌, subst, ℕ, suc, ◌+◌, ◌-◌, ◌≤◌, ◌<◌, length, take, arith}
use Rattle.combinatorics.specs.Front.{front}
use Rattle.path_pass.proofs.Places.{IsRead}
use Rattle.path_pass.proofs.Visits.{spends}
use Rattle.path_pass.proofs.Passing.{MovesTo, Place, asks, can_look, counted-on, facet-ends, goes-next, has_looked}
use Rattle.path_pass.proofs.Passing.{labels-fit, passes-first, passes_on, place-ends, stands}
use Rattle.path_pass.specs.Finish.{problem_in}
use Rattle.grid.proofs.Fields.{indices-few}
use Rattle.marks.specs.Reading.{table_problem}
use Rattle.moves.specs.Held.{answered, state_of}
use Rattle.moves.specs.declared.Outcome.{Outcome}
use Rattle.moves.specs.declared.Outcome.TheVariants.{Moved}
use Rattle.place.specs.Path.{path, path_length}
use Rattle.place.specs.Problem.{Problem}
use Rattle.trail_records.proofs.Differences.{none_differs}
use Rattle.trail_records.specs.Records.{SameSets}
use Rattle.rules.specs.Read.{position_at}
use Rattle.rules.specs.Ready.{Ready}
use Rattle.rules.specs.Moves.{State, make_move}
use Rattle.trail.specs.Record.{trail_of}
use Rattle.trail_visits.specs.Visited.{record_here, with_record}
use Rattle.trail_pass.proofs.OnTrail.{SoFar, come-fits, ended-whole, first-bytes, left-none, next-end}
use Rattle.trail_pass.proofs.OnTrail.{next-left, next-short, next_so_far, next_trail, part_fits, so_far_none}
use Rattle.trail_pass.proofs.OnTrail.{trail_none, whole-at}
use Rattle.trail_pass.specs.Recording.{left_behind}
use Rattle.ways.proofs.Here.{can_tell, here-steps, same-gone, same_way}
use Rattle.ways.proofs.RuleOne.{KeepsBoth, rule-one}
use Rattle.ways.specs.Ways.{CanTell, gone_by, held_marks, way_here}
use Rattle.trail_pass.proofs.pass_recording.Goals as goal
use Rattle.trail_pass.proofs.pass_recording.Goals.{After-bytes_to-end, After-make_move, In-Moved, In-loop-left}
use Rattle.trail_pass.proofs.pass_recording.Goals.{In_default}

pub tails-tails-requires : goal.tails-tails-requires
tails-tails-requires c = indices-few c.args.g c.requires.can_pass.readable.made

pub begun-at-requires : goal.begun-at-requires
begun-at-requires c = indices-few c.args.g c.requires.can_pass.readable.made

pub loop-left-init : goal.loop-left-init
loop-left-init c =
    let a = c.args in
    let w = c.requires.can_pass in
    let start = a.held.now.first in
    let none : a.budget - a.budget ≡ 0 = omega arith in
    rw none (
      passes-first a.g w.readable.made a.held.now c.begun-at.new.held a.table.now w.accepted w.is_round
          c.begun-at.result c.begun-at.ensures,
      record {
        so_far = so_far_none a.g start a.table.now w.accepted _;
        counted = first-bytes a.g start a.table.now w.accepted;
        kept = λ r l. absurd (omega arith);
        written = trail_none a.g start a.table.now w.accepted a.writes a.trail.now;
        long = refl;
        left = λ f. left-none a.g start a.table.now w.accepted _ (omega arith);
      },
    )

abbrev place : In-loop-left → Place
place c =
    let a = c.args in
    let w = c.requires.can_pass in
    let l = c.loop-left in
    let tails = c.tails-tails in
    record {
      g = a.g;
      made = w.readable.made;
      start = a.held.now.first;
      table = a.table.now;
      ok = w.accepted;
      round = a.round.now;
      held = l.held;
      budget = a.budget;
      visited = a.budget - l.left;
      stand = l.at;
      passing = l.invariant.0;
      more = omega arith;
      below = w.below;
      tails = tails.result;
      sums = tails.ensures;
    }

pub look_up-requires-clause-can_find : goal.look_up-requires-clause-can_find
look_up-requires-clause-can_find c = can_look (place (goal.at.look_up-requires-clause-can_find c).In-loop-left)

-- the places visited before this one, as the code works them out
number : (c : In-loop-left) → c.args.budget - (c.loop-left.left - 1) - 1 ≡ (place c).visited
number c = omega arith

pub returns-in-Err : goal.returns-in-Err
returns-in-Err c = rw (c.unrecorded.ensures.0, c.asked.ensures, number (goal.at.returns-in-Err c).In-loop-left) record {
  finished = asks (place (goal.at.returns-in-Err c).In-loop-left) c.in-Err.ensures.0;
  recorded = (c.unrecorded.ensures.1, c.loop-left.invariant.1.written);
}

told : (c : In_default)
    → let P = place (goal.at.In_default c).In-loop-left in
    IsRead (table_problem P.g P.table) (stands P) P.round c.look_up.new.held P.stand.status
told c = has_looked (place (goal.at.In_default c).In-loop-left) c.look_up.new.held {x = c.in_default.field-0}
    c.in_default.ensures

abbrev marked : In_default → State
marked c =
    let P = place (goal.at.In_default c).In-loop-left in state_of P.round c.look_up.new.held P.stand.status

tells : (c : In_default)
    → let s = (place (goal.at.In_default c).In-loop-left).stand.status in
    CanTell (held_marks c.look_up.new.held.marks s) s
tells c =
    let P = place (goal.at.In_default c).In-loop-left in
    can_tell P.round c.look_up.new.held P.stand.status (told c).ready

pub tell-gone-requires : goal.tell-gone-requires
tell-gone-requires c =
    let past = (goal.at.tell-gone-requires c).In_default in
    let R = told past in
    let P = place (goal.at.tell-gone-requires c).In-loop-left in
    let l = c.loop-left in
    let pass = l.invariant.1 in record {
      can_tell = tells past;
      can_write = λ e. record {
        positions = record {
          active = (tells past).active;
          few = (tells past).few;
          come = subst (λ (x : State). position_at x x.active < 65536) (sym R.is)
              (come-fits P.g P.start P.table P.ok (stands P) P.visited P.passing.here R.known);
          gone = (pass.left e).low;
        };
        room = subst (λ (x : State). l.from + length (record_here x l.before l.from) ≤ length l.trail)
            (sym R.is)
            (omega (
              arith,
              next-short P.g P.start P.table P.ok (stands P) P.visited P.passing.here R.known
                  l.before l.from pass.so_far,
              c.requires.has_room_for_trail e,
              pass.long,
            ));
        kept = pass.kept;
      };
    }

pub make_move-requires : goal.make_move-requires
make_move-requires c =
    record { below = c.requires.can_pass.below; ready = (told (goal.at.make_move-requires c).In_default).ready }

-- what it gives, by its outcome: the step from the place
abbrev here : After-make_move → Place
here c = place (goal.at.After-make_move c).In-loop-left

abbrev Goes : (c : After-make_move) → Outcome → Type 0
Goes c o = MovesTo (here c) c.make_move.new.held o

steps : (c : After-make_move) (o : Outcome) → c.make_move.result ≡ o → Goes c o
steps c o e =
    let R = told (goal.at.After-make_move c).In_default in record {
      known = R.known;
      moves = ap (λ (x : Outcome). answered (here c).round c.make_move.new.held (here c).stand.status x) (sym e)
          ∙ c.make_move.ensures ∙ ap make_move R.is;
    }

-- the trail with the record of the place
abbrev trail_after : After-make_move → List ℕ
trail_after c = c.tell-gone.new.trail

abbrev problem : After-make_move → Problem
problem c = problem_in (here c).g (here c).start (here c).table

put : (c : After-make_move)
    → let a = c.args in
    let p = problem c in
    trail_after c
    ≡ cond a.writes (front (trail_of p (take (suc (here c).visited) (path p).visited)) a.trail.now) a.trail.now
put c =
    let R = told (goal.at.After-make_move c).In_default in
    let P = here c in
    let a = c.args in
    let l = c.loop-left in
    let pass = l.invariant.1 in
    c.tell-gone.ensures.trail_after
    ∙ ap (λ (x : State). with_record x l.trail l.from l.before a.writes) R.is
    ∙ next_trail P.g P.start P.table P.ok (stands P) P.visited P.passing.here R.known l.before
    l.from pass.so_far a.writes a.trail.now l.trail c.requires.has_room_for_trail pass.left pass.written

-- at the path's last place it is whole
whole : (c : After-make_move) → (here c).visited + 1 ≡ path_length (problem c)
    → let a = c.args in
    let trail = trail_of (problem c) (path (problem c)).visited in
    (c.loop-left.end ≡ length trail)
    × (trail_after c ≡ cond a.writes (front trail a.trail.now) a.trail.now)
whole c last =
    let P = here c in
    let a = c.args in
    let e = whole-at P.g P.start P.table P.ok P.visited (sym (counted-on P) ∙ last) in (
      c.loop-left.invariant.1.counted ∙ ap length e,
      put c ∙ ap (λ (x : List ℕ). cond a.writes (front x a.trail.now) a.trail.now) e,
    )

pub returns-in-PlaceEnd : goal.returns-in-PlaceEnd
returns-in-PlaceEnd c =
    let past = (goal.at.returns-in-PlaceEnd c).After-make_move in
    let E = place-ends (here past) (steps past _ c.in-PlaceEnd.is) in
    rw (c.ended-finish.ensures, number (goal.at.returns-in-PlaceEnd c).In-loop-left) record {
      finished = E;
      recorded = whole past (ended-whole (problem past) (here past).budget E.is);
    }

pub returns-in-FacetEnd : goal.returns-in-FacetEnd
returns-in-FacetEnd c =
    let past = (goal.at.returns-in-FacetEnd c).After-make_move in
    let E = facet-ends (here past) (steps past _ c.in-FacetEnd.is) in
    rw (c.ended-finish-in-FacetEnd.ensures, number (goal.at.returns-in-FacetEnd c).In-loop-left) record {
      finished = E;
      recorded = whole past (ended-whole (problem past) (here past).budget E.is);
    }

-- the state at the next place
abbrev onward : In-Moved → State
onward c =
    state_of (here (goal.at.In-Moved c).After-make_move).round c.make_move.new.held c.in-Moved.status

on-there : (c : In-Moved) → Goes (goal.at.In-Moved c).After-make_move (Moved c.in-Moved.status)
on-there c = steps (goal.at.In-Moved c).After-make_move _ c.in-Moved.is

-- where rule 1 led to it, T and U are kept
keeps : (c : In-Moved)
    → let s = (here (goal.at.In-Moved c).After-make_move).stand.status in
    c.in-Moved.status.rule ≡ 1 → SameSets s.t s.u c.in-Moved.status.t c.in-Moved.status.u
keeps c r =
    let past = (goal.at.In-Moved c).In_default in
    let P = here (goal.at.In-Moved c).After-make_move in
    let s = P.stand.status in
    let K : KeepsBoth (marked past) (onward c) =
    rule-one (marked past) P.below.backward (way_here (marked past)) (onward c)
    (here-steps (marked past) ∙ ap make_move (told past).is ∙ sym (on-there c).moves) r in
    record {
      in_t = none_differs s.t c.in-Moved.status.t K.in_t;
      in_u = none_differs s.u c.in-Moved.status.u K.in_u;
    }

-- what the pass keeps of the place that it leaves
so_far_lem : (c : In-Moved)
    → let P = here (goal.at.In-Moved c).After-make_move in
    SoFar P.g P.start P.table
    (record {
      sets = record { t = P.stand.status.t; u = P.stand.status.u };
      gone = c.tell-gone.result;
    })
    (suc P.visited) c.loop-left.end
so_far_lem c =
    let P = here (goal.at.In-Moved c).After-make_move in
    let l = c.loop-left in
    let R = told (goal.at.In-Moved c).In_default in
    next_so_far P.g P.start P.table P.ok (stands P) P.visited P.passing.here R.known
    l.before l.from l.invariant.1.so_far _ l.end l.invariant.1.counted

pub bytes_to-end-requires : goal.bytes_to-end-requires
bytes_to-end-requires c = keeps (goal.at.bytes_to-end-requires c).In-Moved

-- the record of the next place is counted
longer : (c : After-bytes_to-end)
    → let p = problem (goal.at.After-bytes_to-end c).After-make_move in
    c.loop-left.end + c.bytes_to-end.result
    ≡ length (trail_of p (take (suc (suc (here (goal.at.After-bytes_to-end c).After-make_move).visited)) (path p).visited))
longer c =
    let past = (goal.at.After-bytes_to-end c).In-Moved in
    let P = here (goal.at.After-bytes_to-end c).After-make_move in
    let l = c.loop-left in
    next-end P.g P.start P.table P.ok (onward past) P.visited (goes-next P (on-there past)) _
    ((so_far_lem past).behind P.visited refl) l.end c.bytes_to-end.result l.invariant.1.counted
    c.bytes_to-end.ensures

pub overflow_add-end : goal.overflow_add-end
overflow_add-end c =
    let P = here (goal.at.overflow_add-end c).After-make_move in
    record {
      fits = rw (longer c) (part_fits P.g P.start P.table P.ok (suc (suc P.visited)));
    }

pub on-at-requires : goal.on-at-requires
on-at-requires c =
    labels-fit (here (goal.at.on-at-requires c).After-make_move) (on-there (goal.at.on-at-requires c).In-Moved)

pub loop-left-preserved : goal.loop-left-preserved
loop-left-preserved c =
    let past = (goal.at.loop-left-preserved c).In_default in
    let met = (goal.at.loop-left-preserved c).In-Moved in
    let there = (goal.at.loop-left-preserved c).After-make_move in
    let P = here there in
    let s = P.stand.status in
    let R = told past in
    let held = c.look_up.new.held in
    let tell = c.tell-gone in
    let next : c.args.budget - (c.loop-left.left - 1) ≡ P.visited + 1 = omega arith in
    rw next (
      passes_on P (on-there met) c.on-at.ensures,
      rw (c.on-at.ensures, counted-on P) (record {
        so_far = so_far_lem met;
        counted = longer (goal.at.loop-left-preserved c).After-bytes_to-end;
        kept = λ r q. keeps met r;
        written = put there;
        long = omega (arith, c.loop-left.invariant.1.long);
        left = λ e. next-left P.g P.start P.table P.ok (stands P) P.visited P.passing.here
            R.known (subst Ready R.is R.ready) (onward met) (sym (on-there met).moves)
            (goes-next P (on-there met)) tell.result
            (tell.ensures.value e
            ∙ same-gone P.round held s (way_here (held_marks held.marks s))
            ∙ ap (gone_by (marked past)) (same_way P.round held s)
            ∙ ap (λ (x : State). gone_by x (way_here x)) R.is);
      }),
    )

pub returns : goal.returns
returns c =
    let a = c.args in
    let w = c.requires.can_pass in
    let l = c.loop-left in
    let all : a.budget - l.left ≡ a.budget = omega arith in
    rw c.unrecorded-2.ensures.0 record {
      finished = spends a.g w.readable.made a.held.now.first a.table.now w.accepted _ (a.budget - l.left)
          l.invariant.0.here a.budget (omega arith);
      recorded = (
        c.unrecorded-2.ensures.1,
        l.invariant.1.written
            ∙ ap (left_behind (problem_in a.g a.held.now.first a.table.now) a.writes a.trail.now) all,
      );
    }
