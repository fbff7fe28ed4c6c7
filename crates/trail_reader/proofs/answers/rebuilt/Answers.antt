-- `answers::rebuilt` meets its contract: v's record, the records behind it, and the place. Assumes nothing.
use mathlib.Core.List.{List, [], ◌∷◌}
use mathlib.Core.Path.{◌≡◌, sym, ap, ◌∙◌}
use Prim.Native.Nat.{ℕ, ◌-◌, ◌*◌}
use borrow.Author.Rules.{rules}
use lib.ListN.{drop, length, set, take}
use native.Mathlib.Omega.{arith}
use Rattle.combinatorics.proofs.EditsOfArrays.{counted}
use Rattle.grid.proofs.Fields.{indices-few}
use Rattle.moves.specs.Held.{state_with}
use Rattle.place.specs.Problem.{Problem}
use Rattle.path_laws.proofs.LabelsRead.{came_few}
use Rattle.trail_records.proofs.Told.{taken_record}
use Rattle.trail.specs.Record.{start_record}
use Rattle.trail.specs.Trail.{begins, places_from}
use Rattle.trail_steps.proofs.Named.{shows-few}
use Rattle.trail_steps.specs.Reading.{HasRead, problem_by}
use Rattle.trail_reader.proofs.Begins.{v_read}
use Rattle.trail_reader.proofs.Rebuilt.{begins_three, computes, few-numbers, first-is, minus_none, not_first}
use Rattle.trail_reader.proofs.Rebuilt.{reads_17, reads_by, reads_none, reads-place}
use Rattle.trail_reader.proofs.answers.rebuilt.Goals as goal
use Rattle.trail_reader.proofs.answers.rebuilt.Goals.{After-stands, Start}

pub begin-s-requires : goal.begin-s-requires
begin-s-requires c = indices-few c.args.g c.requires.can_rebuild.measured.made

pub tails-tails-requires : goal.tails-tails-requires
tails-tails-requires c = indices-few c.args.g c.requires.can_rebuild.measured.made

pub start_position-position-requires : goal.start_position-position-requires
start_position-position-requires c =
    let w = c.requires.can_rebuild in
    record { measured = w.measured; first_length = c.args.held.now.first_long; has_start = w.has_start }

pub stands-requires : goal.stands-requires
stands-requires c =
    let R = c.first_record.ensures in (omega arith, omega (arith, R.long, R.sized.1), R.eight)

abbrev start : After-stands → List ℕ
start c = let a = c.args in take a.g.indices a.held.now.first

abbrev problem : After-stands → Problem
problem c = problem_by c.args.g (start c)

told : (c : After-stands)
    → c.stands.result
    ≡ begins (start_record (problem c))
    c.args.trail.now
told c =
    let trail = c.args.trail.now in
    let position = c.start_position-position in
    let is = taken_record c.first_record.ensures
    ∙ first-is (problem c) trail position.result position.ensures.0 in
    c.stands.ensures ∙ ap (λ (r : List ℕ). begins r trail) is

-- with v's position in its mark {v} is held
held : (c : After-stands)
    → let a = c.args in
    let marks = set a.held.now.marks 0 (c.start_position-position.result * 256) in
    HasRead a.g (start c) c.tails-tails.result (start c ∷ [])
    (state_with a.round.now a.held.now.first a.held.now.coefficients a.held.now.order marks c.begin-s.result)
held c =
    let a = c.args in
    let w = c.requires.can_rebuild in
    let begun = c.begin-s in
    let tails = c.tails-tails in
    let position = c.start_position-position in
    rw (w.no_coefficients, w.no_marks)
    (v_read a.g w.measured.made a.held.now.first w.has_start a.round.now w.is_round a.held.now.order
    a.held.now.first_long begun.result begun.ensures tails.result tails.ensures position.result position.ensures.0)

pub returns-then-not-stands : goal.returns-then-not-stands
returns-then-not-stands c =
    let here = (goal.at.returns-then-not-stands c).After-stands in
    let a = c.args in
    let no = sym (told here) ∙ c.if-not-stands.true in
    reads_17 a.g (start here) a.trail.now a.number a.points c.refused.result c.refused.ensures
    (not_first (problem here) a.trail.now a.number c.requires.number_nonzero no)

pub follow-requires : goal.follow-requires
follow-requires c =
    let here = (goal.at.follow-requires c).After-stands in
    let w = c.requires.can_rebuild in
    let yes = sym (told here) ∙ c.if-not-stands.false in
    record {
      measured = w.measured;
      below = w.below;
      place = (start here, start here ∷ [], held here);
      low = begins_three (problem here) c.args.trail.now yes;
    }

pub overflow_add-reached : goal.overflow_add-reached
overflow_add-reached c =
    let here = (goal.at.overflow_add-reached c).After-stands in
    let n = c.args.number - 1 in
    let R = c.in-Some.ensures (start here) (start here ∷ []) (held here) in
    let few = came_few (places_from (problem here) n (start here ∷ []) (drop 3 c.args.trail.now)) n in
    omega (arith, R.brought, few, c.requires.number_nonzero, c.ranges.number.fits)

-- the array that is lent
long : (c : Start) → length c.args.points ≡ 256
long c = search rules

pub placed-requires : goal.placed-requires
placed-requires c =
    let here = (goal.at.placed-requires c).After-stands in
    let a = c.args in
    let w = c.requires.can_rebuild in
    let few = indices-few a.g w.measured.made in
    let h = c.follow.new.held in
    let R = c.in-Some.ensures (start here) (start here ∷ []) (held here) in
    let C = computes w.has_start R.shows in (
      record {
        below = w.below.backward;
        first_length = R.shows.first_length;
        points = record { low = C.low; few = C.few; indices = C.indices; positive = C.positive; fits = C.fits };
        short = few;
        low = omega arith;
        fits = rw minus_none (omega (
          arith,
          few-numbers w.has_start R.shows a.g.indices few,
          long (goal.at.placed-requires c).Start,
        ));
      },
      counted h.order c.in-Some.reached.status.count h.order_long
          (omega (arith, R.shows.order_length, shows-few w.has_start R.shows)),
    )

pub returns : goal.returns
returns c =
    let here = (goal.at.returns c).After-stands in
    let a = c.args in
    let w = c.requires.can_rebuild in
    let trail = a.trail.now in
    let yes = sym (told here) ∙ c.if-not-stands.false in
    let R = c.in-Some.ensures (start here) (start here ∷ []) (held here) in
    let there = reads-place (problem here) trail a.number c.requires.number_nonzero yes R.place R.is _ R.brought in
    reads_by a.g w.measured.made (start here) trail a.number w.has_start R.place a.round.now c.follow.new.held
    c.in-Some.reached.status _ R.shows a.points c.placed.result
    c.placed.ensures there

pub returns-in_default : goal.returns-in_default
returns-in_default c =
    let here = (goal.at.returns-in_default c).After-stands in
    let a = c.args in
    let yes = sym (told here) ∙ c.if-not-stands.false in
    let R = c.in_default.ensures (start here) (start here ∷ []) (held here) in
    reads_17 a.g (start here) a.trail.now a.number a.points c.refused-in_default.result c.refused-in_default.ensures
    (reads_none (problem here) a.trail.now a.number c.requires.number_nonzero yes R)
