-- `check` meets its contract: questions 1 to 4, then 6, 7 and 19, and then the verdict. Assumes nothing.
use mathlib.Core.Path.{sym, ap, ◌∙◌}
use Prim.Native.Nat.{ℕ, ◌/◌}
use lib.ListN.{length}
use Rattle.questions.specs.Questions.{first_no}
use Rattle.grid.proofs.Fields.{made_code, made-indices, made-is, made-shape}
use Rattle.grid_points.specs.Grid.{Grid}
use Rattle.grid.specs.Made.{shape}
use Rattle.check_simplices.specs.Simplices.{verdict}
use Rattle.check_chains.specs.Listed.{listed}
use Rattle.checker.proofs.Answers.{refused-grid, refused-list, judged_is, passed_labels, passed_list}
use Rattle.checker.proofs.ListRefusals.{some-index}
use Rattle.checker.specs.Check.{listed_points, list_questions, check_case}
use Rattle.checker.proofs.check.Goals as goal

pub returns-then-code-ne0 : goal.returns-then-code-ne0
returns-then-code-ne0 c =
    let G : Grid = record { sizes = c.args.sizes.now; divisions = c.args.divisions.now } in
    let r = c.new-made.result in
    refused-grid G c.args.labels.now c.args.numbers.now r.code c.if-code-ne0.true
    (made_code G r c.new-made.ensures)

pub first_check_no-number-requires : goal.first_check_no-number-requires
first_check_no-number-requires c = let G : Grid = record { sizes = c.args.sizes.now; divisions = c.args.divisions.now } in
    made-is G c.new-made.result c.new-made.ensures c.if-code-ne0.false

pub returns-then-number-ne0 : goal.returns-then-number-ne0
returns-then-number-ne0 c =
    let G : Grid = record { sizes = c.args.sizes.now; divisions = c.args.divisions.now } in
    let n = c.new-made in
    let zero = c.if-code-ne0.false in
    refused-list G c.args.labels.now c.args.numbers.now (sym (made_code G n.result n.ensures) ∙ zero)
    c.first_check_no-number.result c.if-number-ne0.true
    (c.first_check_no-number.ensures
    ∙ ap
    (λ (h : Grid). first_no (list_questions h c.args.labels.now c.args.numbers.now))
    (made-shape G n.result n.ensures zero))

pub whole_points-count-requires : goal.whole_points-count-requires
whole_points-count-requires c = let G : Grid = record { sizes = c.args.sizes.now; divisions = c.args.divisions.now } in
    let n = c.new-made in
    some-index n.result.grid (made-is G n.result n.ensures c.if-code-ne0.false)

pub judged-requires : goal.judged-requires
judged-requires c = let G : Grid = record { sizes = c.args.sizes.now; divisions = c.args.divisions.now } in
    let n = c.new-made in
    let s = n.result.grid in
    let made = made-is G n.result n.ensures c.if-code-ne0.false in
    let none = sym c.first_check_no-number.ensures ∙ c.if-number-ne0.false in
    let w = passed_list s made c.args.labels.now c.args.numbers.now none in
    rw c.whole_points-count.ensures (w.0, passed_labels s made c.args.labels.now c.args.numbers.now none, w.1)

pub returns : goal.returns
returns c =
    let G : Grid = record { sizes = c.args.sizes.now; divisions = c.args.divisions.now } in
    let n = c.new-made in
    let zero = c.if-code-ne0.false in
    let s = n.result.grid in
    let made = made-is G n.result n.ensures zero in
    let labels = c.args.labels.now in
    let numbers = c.args.numbers.now in
    let same = made-shape G n.result n.ensures zero in
    let none = ap (λ (h : Grid). first_no (list_questions h labels numbers)) (sym same)
    ∙ sym c.first_check_no-number.ensures
    ∙ c.if-number-ne0.false in
    c.judged.ensures
    ∙ ap (λ (k : ℕ). check_case (verdict (shape s) labels (listed s.indices k numbers)))
    c.whole_points-count.ensures
    ∙ ap (λ (m : ℕ). check_case (verdict (shape s) labels (listed m (length numbers / m) numbers))) (made-indices s made)
    ∙ ap (λ (h : Grid). check_case (verdict h labels (listed_points h numbers))) same
    ∙ judged_is G labels numbers (sym (made_code G n.result n.ensures) ∙ zero) none
