-- `boundary` meets its contract: each question is asked where all before it are answered yes. Assumes nothing.
use mathlib.Core.Bool.{Bool, true}
use mathlib.Core.List.{List}
use mathlib.Core.Path.{◌≡◌, sym, ap, ◌∙◌}
use Prim.Native.Nat.{ℕ}
use lib.Dec.{leb}
use lib.ListN.{length}
use native.Mathlib.Omega.{arith}
use Rattle.combinatorics.specs.Lists.{all}
use Rattle.questions.proofs.Answers.{asked-no}
use Rattle.questions.specs.Questions.{first_no}
use Rattle.grid.proofs.Fields.{indices-few, made_code, made-indices}
use Rattle.grid_points.specs.Grid.{Grid, num_indices, num_points, lent}
use Rattle.grid.specs.Made.{IsMade, shape}
use Rattle.grid_points.specs.Questions.{grid_questions}
use Rattle.grid.specs.declared.Grid.{Grid as GridStruct}
use Rattle.game_labels.proofs.Outcomes.{made-on}
use Rattle.game_labels.specs.Labelling.{labelled_of}
use Rattle.game_labels.specs.declared.Labelled.TheVariants.{Refused, Written}
use Rattle.boundary_labels.specs.Boundary.{boundary_table}
use Rattle.boundary.proofs.Outcomes.{accepted, asked6, asked7, asked12, asked-all, refused}
use Rattle.boundary.specs.Call.{boundary_questions, table_or_old}
use Rattle.boundary.proofs.boundary.Goals as goal
use Rattle.boundary.proofs.boundary.Goals.{Else-made-ne0, Else-not-all_at_most, Else-old-grid}

abbrev g : (c : Else-made-ne0) → Grid
g c = lent c.args.sizes.now c.args.divisions.now

abbrev grid : (c : Else-made-ne0) → GridStruct
grid c = c.new-made.result.grid

abbrev old : (c : Else-made-ne0) → List ℕ
old c = c.args.old.now

abbrev buffer : (c : Else-made-ne0) → List ℕ
buffer c = c.args.labels.now

is-grid : (c : Else-made-ne0) → IsMade (grid c) × (shape (grid c) ≡ (g c)) × ((grid c).points ≡ num_points (g c))
is-grid c = made-on (g c) c.new-made.result c.new-made.ensures c.if-made-ne0.false

asked : (c : Else-made-ne0) → first_no (grid_questions (g c)) ≡ 0
asked c = sym (made_code (g c) c.new-made.result c.new-made.ensures) ∙ c.if-made-ne0.false

-- the answer and the buffer, by the number of the first question answered no
answer : (c : Else-made-ne0) → (n : ℕ) → (n ≡ 0 → ⊥) → first_no (boundary_questions (g c) (old c) (buffer c)) ≡ n
    → (Refused n ≡ labelled_of (g c) (boundary_questions (g c) (old c) (buffer c)))
    × ((buffer c) ≡ table_or_old (g c) (boundary_questions (g c) (old c) (buffer c)) (old c) (buffer c))
answer c n = refused (g c) (boundary_questions (g c) (old c) (buffer c)) (old c) (buffer c) n

-- question 7, by the number of indices that the constructor gives
by_count : (c : Else-made-ne0) → (b : Bool) → all (λ l. leb l (grid c).indices) (old c) ≡ b → all (λ l. leb l (num_indices (g c))) (old c) ≡ b
by_count c b h =
    let m : (grid c).indices ≡ num_indices (g c) = made-indices (grid c) (is-grid c).0 ∙ ap num_indices (is-grid c).1 in
    sym (ap (λ (m : ℕ). all (λ l. leb l m) (old c)) m) ∙ h

whole : (c : Else-old-grid) → length (old (goal.at.Else-old-grid c).Else-made-ne0) ≡ num_points (g (goal.at.Else-old-grid c).Else-made-ne0)
whole c = c.if-old-grid.false ∙ (is-grid (goal.at.Else-old-grid c).Else-made-ne0).2

range : (c : Else-not-all_at_most) → (all (λ l. leb l (num_indices (g (goal.at.Else-not-all_at_most c).Else-made-ne0))) (old (goal.at.Else-not-all_at_most c).Else-made-ne0) ≡ true)
range c = by_count (goal.at.Else-not-all_at_most c).Else-made-ne0 true (sym c.all_at_most.ensures ∙ c.if-not-all_at_most.false)

pub returns-then-made-ne0 : goal.returns-then-made-ne0
returns-then-made-ne0 c =
    let r = c.new-made in
    let g = lent c.args.sizes.now c.args.divisions.now in
    let old = c.args.old.now in
    let buffer = c.args.labels.now in
    let both = refused g (boundary_questions g old buffer) old buffer r.result.code c.if-made-ne0.true
    (asked-no (grid_questions g) _ r.result.code c.if-made-ne0.true (sym (made_code g r.result r.ensures))) in
    record { answer = both.0; buffer = both.1 }

pub returns-then-old-grid : goal.returns-then-old-grid
returns-then-old-grid c =
    let here = (goal.at.returns-then-old-grid c).Else-made-ne0 in
    let both = answer here 6 (λ z. omega arith)
    (asked6 (g here) (old here) (buffer here) (asked here) (λ h. c.if-old-grid.true (h ∙ sym (is-grid here).2))) in
    record { answer = both.0; buffer = both.1 }

pub overflow_cast-grid : goal.overflow_cast-grid
overflow_cast-grid c =
    let here = (goal.at.overflow_cast-grid c).Else-made-ne0 in
    omega (arith, indices-few (grid here) (is-grid here).0)

pub returns-then-not-all_at_most : goal.returns-then-not-all_at_most
returns-then-not-all_at_most c =
    let here = (goal.at.returns-then-not-all_at_most c).Else-made-ne0 in
    let no = by_count here _ (sym c.all_at_most.ensures ∙ c.if-not-all_at_most.true) in
    let both = answer here 7 (λ z. omega arith) (asked7 (g here) (old here) (buffer here) (asked here) (whole (goal.at.returns-then-not-all_at_most c).Else-old-grid) no) in
    record { answer = both.0; buffer = both.1 }

pub returns-then-labels-grid : goal.returns-then-labels-grid
returns-then-labels-grid c =
    let here = (goal.at.returns-then-labels-grid c).Else-made-ne0 in
    let both = answer here 12 (λ z. omega arith)
    (asked12 (g here) (old here) (buffer here) (asked here) (whole (goal.at.returns-then-labels-grid c).Else-old-grid) (range (goal.at.returns-then-labels-grid c).Else-not-all_at_most)
    (λ h. omega (arith, c.if-labels-grid.true, (is-grid here).2))) in
    record { answer = both.0; buffer = both.1 }

pub write-requires : goal.write-requires
write-requires c =
    ((is-grid (goal.at.write-requires c).Else-made-ne0).0, c.if-old-grid.false, c.if-labels-grid.false)

pub returns : goal.returns
returns c =
    let here = (goal.at.returns c).Else-made-ne0 in
    let room = c.if-labels-grid.false ∙ (is-grid here).2 in
    let all = asked-all (g here) (old here) (buffer here) (asked here) (whole (goal.at.returns c).Else-old-grid) (range (goal.at.returns c).Else-not-all_at_most) room in
    let w = accepted (g here) (boundary_questions (g here) (old here) (buffer here)) (old here) (buffer here) all in
    let table = c.write.ensures ∙ ap (λ (x : Grid). boundary_table x (old here)) (is-grid here).1 in
    record { answer = ap Written (is-grid here).2 ∙ w.0; buffer = table ∙ w.1 }
