-- `pointing::points` meets its contract. Assumes nothing.
use mathlib.Core.List.{[], ◌∷◌}
use mathlib.Core.Path.{◌≡◌, sym, ap, ◌∙◌}
use Rattle.grid.proofs.Fields.{indices-few}
use Rattle.grid_points.specs.Grid.{Grid}
use Rattle.grid.specs.Made.{IsMade, shape}
use Rattle.grid.specs.declared.Grid.{Grid as GridStruct}
use Rattle.grid_points.specs.Questions.{grid_questions, question5}
use Rattle.place.specs.Questions.{question6, question7, table_questions}
use Rattle.questions.proofs.Answers.{asked-no}
use Rattle.questions.specs.Questions.{first_no}
use Rattle.walks.specs.Walk.{over}
use Rattle.walk_calls.proofs.Later.{walk-asked}
use Rattle.walk_views.proofs.Placed.{points-refused}
use Rattle.walk_views.specs.Viewed.{points_on}
use Rattle.walk_places.specs.Walks.{table_on, walk_grid, walk_of}
use Rattle.walk_views.proofs.pointing.points.Goals as goal
use Rattle.walk_views.proofs.pointing.points.Goals.{After-first_table_no-number, Else-made-ne0}

pub returns-then-made-ne0 : goal.returns-then-made-ne0
returns-then-made-ne0 c =
    let a = c.args in
    let made = c.grid_in-made in
    let p = over (walk_of a.w) a.labels.now in
    c.no_points.ensures
    ∙ points-refused (walk_grid a.w) a.w a.labels.now made.result.code c.if-made-ne0.true
    (asked-no (grid_questions (walk_grid a.w))
    (question5 (walk_grid a.w) (walk_of a.w).start ∷ question6 p ∷ question7 p ∷ []) made.result.code
    c.if-made-ne0.true (sym made.ensures.code))

abbrev grid : Else-made-ne0 → GridStruct
grid c = c.grid_in-made.result.grid

is_made : (c : Else-made-ne0) → IsMade (grid c) × (shape (grid c) ≡ walk_grid c.args.w)
is_made c = c.grid_in-made.ensures.is c.if-made-ne0.false

pub shared_ref_as_front-first_table_no : goal.shared_ref_as_front-first_table_no
shared_ref_as_front-first_table_no c =
    let here = (goal.at.shared_ref_as_front-first_table_no c).Else-made-ne0 in
    indices-few (grid here) (is_made here).0

pub first_table_no-number-requires : goal.first_table_no-number-requires
first_table_no-number-requires c = (is_made (goal.at.first_table_no-number-requires c).Else-made-ne0).0

asked : (c : After-first_table_no-number) → (let a = c.args in
    let here = (goal.at.After-first_table_no-number c).Else-made-ne0 in
    first_no (table_questions (table_on (grid here) a.w a.labels.now)) ≡ c.first_table_no-number.result)
asked c =
    let here = (goal.at.After-first_table_no-number c).Else-made-ne0 in
    let a = c.args in
    walk-asked (grid here) a.w a.labels.now (is_made here).0 ∙ sym c.first_table_no-number.ensures

pub returns-then-number-ne0 : goal.returns-then-number-ne0
returns-then-number-ne0 c =
    let here = (goal.at.returns-then-number-ne0 c).Else-made-ne0 in
    let a = c.args in
    c.no_points-then-number-ne0.ensures
    ∙ points-refused (shape (grid here)) a.w a.labels.now c.first_table_no-number.result c.if-number-ne0.true
    (asked (goal.at.returns-then-number-ne0 c).After-first_table_no-number)
    ∙ ap (λ (G : Grid). points_on G a.w a.labels.now) (is_made here).1

pub points_on-requires : goal.points_on-requires
points_on-requires c =
    let at = goal.at.points_on-requires c in
    ((is_made at.Else-made-ne0).0, asked at.After-first_table_no-number ∙ c.if-number-ne0.false)

pub returns : goal.returns
returns c =
    let a = c.args in
    c.points_on.ensures ∙ ap (λ (G : Grid). points_on G a.w a.labels.now) (is_made (goal.at.returns c).Else-made-ne0).1
