-- `beginning::at_start` meets its contract. Assumes nothing.
use mathlib.Core.Path.{◌≡◌, sym, ap, ◌∙◌}
use Rattle.grid.proofs.Fields.{made_code, made-is, made-shape}
use Rattle.grid_points.specs.Grid.{Grid, lent}
use Rattle.place.specs.Problem.{label}
use Rattle.place.specs.Questions.{table_questions}
use Rattle.questions.specs.Questions.{first_no}
use Rattle.walk_calls.proofs.Later.{behind_four}
use Rattle.walk_views.proofs.Start.{begins, begun_by, no-grid, refuses}
use Rattle.walk_views.specs.Begun.{begun_on, start_walk}
use Rattle.walk_views.proofs.beginning.at_start.Goals as goal

pub returns-then-made-ne0 : goal.returns-then-made-ne0
returns-then-made-ne0 c =
    let a = c.args in
    let G = lent a.sizes.now a.divisions.now in
    let made = c.new-made in
    ap (begun_by made.result.code) c.no_walk.ensures
    ∙ no-grid G a.start.now a.labels.now made.result.code c.if-made-ne0.true
    (made_code G made.result made.ensures)

pub first_table_no-number-requires : goal.first_table_no-number-requires
first_table_no-number-requires c =
    let a = c.args in
    made-is (lent a.sizes.now a.divisions.now) c.new-made.result
    c.new-made.ensures c.if-made-ne0.false

pub returns-then-number-ne0 : goal.returns-then-number-ne0
returns-then-number-ne0 c =
    let a = c.args in
    let G = lent a.sizes.now a.divisions.now in
    let made = c.new-made in
    let z = c.if-made-ne0.false in
    let first = c.first_table_no-number in
    let is = made-is G made.result made.ensures z in
    let same = made-shape G made.result made.ensures z in
    let asked : first_no (table_questions (begun_on G a.start.now a.labels.now)) ≡ first.result =
    ap (λ (g : Grid). first_no (table_questions (begun_on g a.start.now a.labels.now))) (sym same)
    ∙ behind_four made.result.grid a.start.now a.labels.now is.accepted
    ∙ sym first.ensures in
    ap (begun_by first.result) c.no_walk-then-number-ne0.ensures
    ∙ refuses G a.start.now a.labels.now first.result c.if-number-ne0.true asked

pub start_on-requires : goal.start_on-requires
start_on-requires c =
    let a = c.args in
    let made = c.new-made in (
      made-is (lent a.sizes.now a.divisions.now) made.result made.ensures c.if-made-ne0.false,
      sym c.first_table_no-number.ensures ∙ c.if-number-ne0.false,
    )

pub returns : goal.returns
returns c =
    let a = c.args in
    let G = lent a.sizes.now a.divisions.now in
    let made = c.new-made in
    let z = c.if-made-ne0.false in
    let is = made-is G made.result made.ensures z in
    let same = made-shape G made.result made.ensures z in
    let asked : first_no (table_questions (begun_on G a.start.now a.labels.now)) ≡ 0 =
    ap (λ (g : Grid). first_no (table_questions (begun_on g a.start.now a.labels.now))) (sym same)
    ∙ behind_four made.result.grid a.start.now a.labels.now is.accepted
    ∙ sym c.first_table_no-number.ensures
    ∙ c.if-number-ne0.false in
    ap (begun_by 0)
    (c.start_on.ensures
    ∙ ap
    (λ (g : Grid). start_walk g a.start.now (label (begun_on g a.start.now a.labels.now) a.start.now))
    same)
    ∙ begins G a.start.now a.labels.now asked
