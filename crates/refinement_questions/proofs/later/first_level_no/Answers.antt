-- `refinement_questions::later::first_level_no` meets its contract: each question is asked where all before it are
-- answered yes. Assumes nothing.
use mathlib.Core.Bool.{true}
use mathlib.Core.Path.{◌≡◌, sym, ap, ◌∙◌}
use Prim.Native.Nat.{ℕ, ◌*◌, ◌≤◌}
use lib.ListN.{length}
use lib.Seq.{length-take-le}
use native.Mathlib.Nat.{mul-le-mul}
use native.Mathlib.Omega.{arith}
use Rattle.combinatorics.specs.Lists.{all}
use Rattle.game_labels.proofs.Outcomes.{blocks-room}
use Rattle.grid.proofs.Fields.{blocks-range, made-accepted, made-blocks}
use Rattle.grid_points.specs.Grid.{is_grid_point}
use Rattle.grid.specs.Made.{shape}
use Rattle.game_losses.proofs.Table.{product-few}
use Rattle.game_losses.specs.Game.{product}
use Rattle.game_losses.specs.Table.{in_range, num_losses}
use Rattle.refinement_questions.proofs.Asked.{no_buffer, no_length, no-range, no_room, no_start, none-no}
use Rattle.refinement_questions.proofs.later.first_level_no.Goals as goal
use Rattle.refinement_questions.proofs.later.first_level_no.Goals.{After-num_profiles, Else-losses-grid, Else-not-in_range, Else-not-is_grid_point}

pub returns-then-not-is_grid_point : goal.returns-then-not-is_grid_point
returns-then-not-is_grid_point c =
    let a = c.args in
    no_start (shape a.grid) a.points a.start.now a.losses.now a.levels a.label_room a.room
    (sym c.is_grid_point.ensures ∙ c.if-not-is_grid_point.true)

on : (c : Else-not-is_grid_point) → is_grid_point (shape c.args.grid) c.args.start.now ≡ true
on c = sym c.is_grid_point.ensures ∙ c.if-not-is_grid_point.false

pub shared_ref_as_front-num_profiles : goal.shared_ref_as_front-num_profiles
shared_ref_as_front-num_profiles c = (blocks-range c.args.grid c.requires.0).1

pub slice_bounds-num_profiles-end : goal.slice_bounds-num_profiles-end
slice_bounds-num_profiles-end c = sym (length-take-le _ _ ((blocks-room c.args.grid c.requires.0).0))

pub num_profiles-requires : goal.num_profiles-requires
num_profiles-requires c =
    (made-accepted c.args.grid c.requires.0).few_indices

count-is : (c : After-num_profiles) → (let g = c.args.grid in
    g.blocks * c.num_profiles.result ≡ num_losses (shape g))
count-is c =
    let g = c.args.grid in
    ap (λ (n : ℕ). g.blocks * n) c.num_profiles.ensures
    ∙ ap (λ (n : ℕ). n * product (shape g).sizes) (made-blocks g c.requires.0)

pub overflow_mul-grid : goal.overflow_mul-grid
overflow_mul-grid c =
    let g = c.args.grid in
    let few = product-few (shape g).sizes (made-accepted g c.requires.0).few_indices in
    let m : g.blocks * c.num_profiles.result ≤ 6 * 324 =
    mul-le-mul {n₁ = g.blocks} {m₁ = c.num_profiles.result} {n₂ = 6} {m₂ = 324} (blocks-range g c.requires.0).1
    (omega (arith, few, c.num_profiles.ensures))
    in
    omega arith

pub returns-then-losses-grid : goal.returns-then-losses-grid
returns-then-losses-grid c =
    let a = c.args in
    no_length (shape a.grid) a.points a.start.now a.losses.now a.levels a.label_room a.room
    (on (goal.at.returns-then-losses-grid c).Else-not-is_grid_point) (λ e. c.if-losses-grid.true (e ∙ sym (count-is (goal.at.returns-then-losses-grid c).After-num_profiles)))

-- question 10 answered yes
whole : (c : Else-losses-grid) → (let a = c.args in
    length a.losses.now ≡ num_losses (shape a.grid))
whole c = c.if-losses-grid.false ∙ count-is (goal.at.Else-losses-grid c).After-num_profiles

pub returns-then-not-in_range : goal.returns-then-not-in_range
returns-then-not-in_range c =
    let a = c.args in
    no-range (shape a.grid) a.points a.start.now a.losses.now a.levels a.label_room a.room
    (on (goal.at.returns-then-not-in_range c).Else-not-is_grid_point) (whole (goal.at.returns-then-not-in_range c).Else-losses-grid) (sym c.in_range.ensures ∙ c.if-not-in_range.true)

range : (c : Else-not-in_range) → all in_range c.args.losses.now ≡ true
range c = sym c.in_range.ensures ∙ c.if-not-in_range.false

pub returns-then-label_room-points : goal.returns-then-label_room-points
returns-then-label_room-points c =
    let a = c.args in
    no_buffer (shape a.grid) a.points a.start.now a.losses.now a.levels a.label_room a.room
    (on (goal.at.returns-then-label_room-points c).Else-not-is_grid_point) (whole (goal.at.returns-then-label_room-points c).Else-losses-grid) (range (goal.at.returns-then-label_room-points c).Else-not-in_range) c.if-label_room-points.true

pub overflow_mul-levels : goal.overflow_mul-levels
overflow_mul-levels c =
    let p : c.args.levels * c.room_of.result ≤ 8 * 272 = mul-le-mul c.requires.1 c.room_of.ensures.1 in
    omega arith

pub returns-then-room-levels : goal.returns-then-room-levels
returns-then-room-levels c =
    let a = c.args in
    no_room (shape a.grid) a.points a.start.now a.losses.now a.levels a.label_room a.room
    (on (goal.at.returns-then-room-levels c).Else-not-is_grid_point) (whole (goal.at.returns-then-room-levels c).Else-losses-grid) (range (goal.at.returns-then-room-levels c).Else-not-in_range) c.if-label_room-points.false
    (rw c.room_of.ensures.0 at c.if-room-levels.true)

pub returns : goal.returns
returns c =
    let a = c.args in
    none-no (shape a.grid) a.points a.start.now a.losses.now a.levels a.label_room a.room
    (on (goal.at.returns c).Else-not-is_grid_point) (whole (goal.at.returns c).Else-losses-grid) (range (goal.at.returns c).Else-not-in_range) c.if-label_room-points.false
    (rw c.room_of.ensures.0 at c.if-room-levels.false)
