-- `pointing::points_on` meets its contract. Assumes nothing.
use borrow.Author.Rules.{rules}
use mathlib.Core.Bool.{true}
use mathlib.Core.Path.{◌≡◌, sym, ◌∙◌}
use Prim.Native.Nat.{ℕ, pred, ◌-◌}
use native.Mathlib.Omega.{arith}
use Rattle.grid.proofs.Fields.{indices-few}
use Rattle.grid.specs.Made.{shape}
use Rattle.arrays.specs.declared.holding.Held.{Held}
use Rattle.place.specs.Places.{is_place}
use Rattle.walk_next.proofs.Begins.{count-some}
use Rattle.walk_next.proofs.Stood.{all_seen, labels-low, not_all_place, not_kept_place}
use Rattle.walk_places.specs.Placing.{CanSee}
use Rattle.walk_places.specs.Walks.{holds_numbers, place_of, table_on}
use Rattle.walk_views.proofs.Placed.{no-place-held, points_none, points-there, present-is, view}
use Rattle.walk_ways.specs.Standing.{points_kept}
use Rattle.walk_views.proofs.pointing.points_on.Goals as goal
use Rattle.walk_views.proofs.pointing.points_on.Goals.{After-from-n, After-seen, Else-spared-sets}

pub is_kept-requires : goal.is_kept-requires
is_kept-requires c = indices-few c.args.g c.requires.0

pub returns-then-not-is_kept : goal.returns-then-not-is_kept
returns-then-not-is_kept c =
    let a = c.args in
    c.no_points.ensures
    ∙ points_none (shape a.g) a.w a.labels.now c.requires.1
    (no-place-held a.g a.w a.labels.now c.requires.0 c.requires.1
    (sym c.is_kept.ensures.0 ∙ c.if-not-is_kept.true))

abbrev number : After-from-n → ℕ
number c = c.from-n.result - 1

holds : (c : After-from-n) → holds_numbers c.args.g.indices c.args.w.present ≡ true
holds c = sym c.is_kept.ensures.0 ∙ c.if-not-is_kept.false

number_is : (c : After-from-n) → number c ≡ pred c.args.w.present.count
number_is c = omega (arith, c.from-n.ensures)

sees : (c : After-from-n) → CanSee c.args.g c.args.w c.args.labels.now (number c)
sees c =
    let a = c.args in
    view a.g a.w a.labels.now c.requires.0 c.requires.1 (holds c) (number c) (number_is c)

pub overflow_sub-n : goal.overflow_sub-n
overflow_sub-n c =
    let a = c.args in
    omega (arith, c.from-n.ensures, count-some a.g.indices a.w.present (holds c))

pub seen-requires : goal.seen-requires
seen-requires c = sees (goal.at.seen-requires c).After-from-n

abbrev held : After-seen → Held
held c = c.seen.new.held

present : (c : After-seen) → (let a = c.args in
    place_of (shape a.g) a.w.present
    ≡ points_kept a.g (held c).first (held c).order (number (goal.at.After-seen c).After-from-n))
present c =
    let a = c.args in
    let here = (goal.at.After-seen c).After-from-n in
    present-is a.g a.w a.labels.now c.requires.0 c.requires.1 (holds here) (number here) (number_is here) (held c)
    (c.seen.ensures.stays.0 ∙ c.held_in-held.ensures.0) (c.seen.ensures.stays.1 ∙ c.held_in-held.ensures.1)

pub returns-in_default : goal.returns-in_default
returns-in_default c =
    let a = c.args in
    let h = (goal.at.returns-in_default c).After-seen in
    let see = sees (goal.at.returns-in_default c).After-from-n in
    c.no_points-in_default.ensures
    ∙ points_none (shape a.g) a.w a.labels.now c.requires.1
    (rw (present h) (not_kept_place see (held h) c.in_default.ensures.recognised))

pub spare-spared-requires : goal.spare-spared-requires
spare-spared-requires c =
    let h = (goal.at.spare-spared-requires c).After-seen in
    let see = sees (goal.at.spare-spared-requires c).After-from-n in
    let seen = c.in-Some.ensures.recognised in
    (see.few, seen.marks_long, labels-low see (held h) seen)

pub returns-then-spared-sets : goal.returns-then-spared-sets
returns-then-spared-sets c =
    let a = c.args in
    let h = (goal.at.returns-then-spared-sets c).After-seen in
    let see = sees (goal.at.returns-then-spared-sets c).After-from-n in
    let no = not_all_place see (held h) c.in-Some.ensures.recognised c.spare-spared.ensures (search rules)
    (search rules) c.if-spared-sets.true in
    c.no_points-then-spared-sets.ensures
    ∙ points_none (shape a.g) a.w a.labels.now c.requires.1 (rw (present h) no)

is-place : (c : Else-spared-sets) → (let a = c.args in
    let h = (goal.at.Else-spared-sets c).After-seen in
    is_place (table_on a.g a.w a.labels.now)
    (points_kept a.g (held h).first (held h).order (number (goal.at.Else-spared-sets c).After-from-n))
    ≡ true)
is-place c =
    all_seen (sees (goal.at.Else-spared-sets c).After-from-n) (held (goal.at.Else-spared-sets c).After-seen)
    c.in-Some.ensures.recognised c.spare-spared.ensures c.if-spared-sets.false

pub put-requires : goal.put-requires
put-requires c =
    record {
      sees = sees (goal.at.put-requires c).After-from-n;
      present = present (goal.at.put-requires c).After-seen;
      place = is-place (goal.at.put-requires c).Else-spared-sets;
      seen = c.in-Some.ensures.recognised;
    }

pub returns : goal.returns
returns c =
    let a = c.args in
    let place = is-place (goal.at.returns c).Else-spared-sets in
    c.put.ensures
    ∙ points-there (shape a.g) a.w a.labels.now c.requires.1 (rw (present (goal.at.returns c).After-seen) place)
