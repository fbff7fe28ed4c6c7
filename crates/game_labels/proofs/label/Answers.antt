-- `label` meets its contract: each question is asked where all before it are answered yes. Assumes nothing.
use mathlib.Core.Bool.{true}
use mathlib.Core.Path.{◌≡◌, sym, ap, ◌∙◌}
use Prim.Native.Nat.{ℕ, ◌*◌}
use native.Mathlib.Nat.{mul-le-mul}
use native.Mathlib.Omega.{arith}
use lib.ListN.{length}
use Rattle.combinatorics.proofs.Fronts.{front_full}
use Rattle.combinatorics.specs.Lists.{all}
use Rattle.grid_points.proofs.Accepted.{Accepted, accepted}
use Rattle.grid.proofs.Fields.{made_code}
use Rattle.grid_points.specs.Grid.{Grid, num_points, lent}
use Rattle.grid.specs.Made.{IsMade, shape}
use Rattle.questions.specs.Questions.{first_no}
use Rattle.questions.proofs.Answers.{asked-no}
use Rattle.grid_points.specs.Questions.{grid_questions}
use Rattle.game_losses.proofs.Table.{product-few}
use Rattle.game_losses.specs.Game.{product, labels}
use Rattle.game_losses.specs.Table.{num_losses, in_range, IsTable}
use Rattle.game_labels.proofs.AllLabels.{labels_length}
use Rattle.game_labels.proofs.Outcomes.{refused, written, asked10, asked11, asked12, asked-all, made-on}
use Rattle.game_labels.specs.Labelling.{label_questions, labelled_of, left_in}
use Rattle.game_labels.specs.declared.Labelled.TheVariants.{Refused, Written}
use Rattle.game_labels.proofs.label.Goals as goal
use Rattle.game_labels.proofs.label.Goals.{Else-made-ne0, Else-losses-sizes, Else-not-in_range}

-- what is known once the grid is accepted
module _ (c : Else-made-ne0) where
  abbrev g : Grid
  g = lent c.args.sizes.now c.args.divisions.now

  is-grid : IsMade c.new-made.result.grid × (shape c.new-made.result.grid ≡ g)
      × (c.new-made.result.grid.points ≡ num_points g)
  is-grid = made-on g c.new-made.result c.new-made.ensures c.if-made-ne0.false

  asked : first_no (grid_questions g) ≡ 0
  asked = sym (made_code g c.new-made.result c.new-made.ensures) ∙ c.if-made-ne0.false

  is-accepted : Accepted g
  is-accepted = accepted g asked

  -- the answer and the buffer, by the number of the first question answered no
  answer : (n : ℕ) → (n ≡ 0 → ⊥) → first_no (label_questions g c.args.losses.now c.args.buffer.now) ≡ n
      → (Refused n ≡ labelled_of g (label_questions g c.args.losses.now c.args.buffer.now))
      × (c.args.buffer.now
      ≡ left_in g (label_questions g c.args.losses.now c.args.buffer.now) c.args.losses.now
      c.args.buffer.now)
  answer n = refused g (label_questions g c.args.losses.now c.args.buffer.now) c.args.losses.now
      c.args.buffer.now n

  -- the length of a loss table
  table-length : (t : ℕ) → t ≡ product c.args.sizes.now → length c.args.sizes.now * t ≡ num_losses g
  table-length t h = rw h

-- and once questions 10 and 11 are answered yes
whole : (c : Else-losses-sizes)
    → length c.args.losses.now ≡ num_losses (lent c.args.sizes.now c.args.divisions.now)
whole c = c.if-losses-sizes.false
    ∙ table-length (goal.at.Else-losses-sizes c).Else-made-ne0 _ c.num_profiles.ensures

range : (c : Else-not-in_range) → all in_range c.args.losses.now ≡ true
range c = sym c.in_range.ensures ∙ c.if-not-in_range.false

pub returns-then-made-ne0 : goal.returns-then-made-ne0
returns-then-made-ne0 c =
    let r = c.new-made in
    let g = lent c.args.sizes.now c.args.divisions.now in
    let no =
    asked-no (grid_questions g) _ r.result.code c.if-made-ne0.true (sym (made_code g r.result r.ensures)) in
    let w = refused g (label_questions g c.args.losses.now c.args.buffer.now) c.args.losses.now
    c.args.buffer.now r.result.code c.if-made-ne0.true no in
    record { value = w.0; buffer_after = w.1 }

pub num_profiles-requires : goal.num_profiles-requires
num_profiles-requires c = (is-accepted (goal.at.num_profiles-requires c).Else-made-ne0).few_indices

pub overflow_mul-sizes : goal.overflow_mul-sizes
overflow_mul-sizes c =
    let yes = is-accepted (goal.at.overflow_mul-sizes c).Else-made-ne0 in
    let few = product-few c.args.sizes.now yes.few_indices in
    let m = mul-le-mul {n₁ = length c.args.sizes.now} {m₁ = c.num_profiles.result} {n₂ = 6} {m₂ = 324}
    yes.few_blocks (omega (arith, c.num_profiles.ensures)) in
    omega arith

pub returns-then-losses-sizes : goal.returns-then-losses-sizes
returns-then-losses-sizes c =
    let e = (goal.at.returns-then-losses-sizes c).Else-made-ne0 in
    let w = answer e 10 (λ z. omega arith) (asked10 (g e) c.args.losses.now c.args.buffer.now (asked e)
    (λ h. c.if-losses-sizes.true (h ∙ sym (table-length e _ c.num_profiles.ensures)))) in
    record { value = w.0; buffer_after = w.1 }

pub returns-then-not-in_range : goal.returns-then-not-in_range
returns-then-not-in_range c =
    let e = (goal.at.returns-then-not-in_range c).Else-made-ne0 in
    let no = sym c.in_range.ensures ∙ c.if-not-in_range.true in
    let w = answer e 11 (λ z. omega arith)
    (asked11 (g e) c.args.losses.now c.args.buffer.now (asked e)
    (whole (goal.at.returns-then-not-in_range c).Else-losses-sizes) no) in
    record { value = w.0; buffer_after = w.1 }

pub returns-then-buffer-grid : goal.returns-then-buffer-grid
returns-then-buffer-grid c =
    let e = (goal.at.returns-then-buffer-grid c).Else-made-ne0 in
    let w = answer e 12 (λ z. omega arith)
    (asked12 (g e) c.args.losses.now c.args.buffer.now (asked e)
    (whole (goal.at.returns-then-buffer-grid c).Else-losses-sizes)
    (range (goal.at.returns-then-buffer-grid c).Else-not-in_range)
    (λ h. c.if-buffer-grid.true (h ∙ sym (is-grid e).2))) in
    record { value = w.0; buffer_after = w.1 }

pub label_on-requires : goal.label_on-requires
label_on-requires c =
    let e = (goal.at.label_on-requires c).Else-made-ne0 in
    let table : IsTable (g e) c.args.losses.now = record {
      whole = whole (goal.at.label_on-requires c).Else-losses-sizes;
      range = range (goal.at.label_on-requires c).Else-not-in_range;
    } in
    ((is-grid e).0, rw (is-grid e).1 table, c.if-buffer-grid.false)

pub returns : goal.returns
returns c =
    let e = (goal.at.returns c).Else-made-ne0 in
    let l = c.args.losses.now in
    let b = c.args.buffer.now in
    let P = c.if-buffer-grid.false ∙ (is-grid e).2 in
    let w = written (g e) (label_questions (g e) l b) l b
    (asked-all (g e) l b (asked e) (whole (goal.at.returns c).Else-losses-sizes)
    (range (goal.at.returns c).Else-not-in_range) P) in
    let full = sym (front_full (labels (g e) l) b (labels_length (g e) l ∙ sym P)) in
    record {
      value = ap Written (is-grid e).2 ∙ w.0;
      buffer_after = c.label_on.ensures ∙ ap (λ (x : Grid). labels x l) (is-grid e).1 ∙ full ∙ w.1;
    }
