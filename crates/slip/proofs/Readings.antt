-- What a slip is read to, question by question. Assumes nothing.
use mathlib.Core.Bool.{Bool, true, false, cond}
use mathlib.Core.List.{List}
use mathlib.Core.Logic.{⊎_elim}
use mathlib.Core.Path.{◌≡◌, refl, sym, ap, ◌∙◌}
use Prim.Native.Nat.{ℕ, ◌≤◌, ◌<◌}
use borrow.Author.Tests.{leb-true, leb-false, le-leb, lt-leb, eqb-true, eq-eqb, ne_eqb}
use lib.Dec.{eqb, leb}
use lib.ListN.{length}
use native.Mathlib.Omega.{arith}
use Rattle.combinatorics.proofs.Basics.{same_or, true_or_false}
use Rattle.combinatorics.specs.Front.{padded}
use Rattle.grid_points.proofs.Accepted.{Accepted, accepted as grid-accepted}
use Rattle.grid.proofs.Fields.{shape_of, is_made}
use Rattle.grid.specs.declared.Grid.{Grid as GridStruct}
use Rattle.grid_points.specs.Grid.{num_indices, num_points}
use Rattle.grid.specs.Made.{grid_of, shape, IsMade}
use Rattle.questions.specs.Questions.{first_no}
use Rattle.grid_points.specs.Questions.{grid_questions}
use Rattle.slip_fields.proofs.Laws.{inexact}
use Rattle.slip_fields.proofs.Runs.{number_is, then_runs}
use Rattle.slip.specs.declared.Budget.{Budget}
use Rattle.slip.specs.declared.SlipReading.{SlipReading}
use Rattle.slip.specs.declared.Start.{Start}
use Rattle.slip.specs.declared.Table.{Table}
use Rattle.std.proofs.Common.{Some, None}
use Rattle.std.specs.Bool.{then_some}
use Rattle.slip.specs.Reading.{refused_reading, accepted, slip_reading_of, head_of, start_of, budget_of, table_of}
use Rattle.slip.specs.Reading.{slip_reading, table_named}
use Rattle.slip.specs.Reading.{labels_in, Asked}
use Rattle.slip_fields.specs.Slip.{stands, slip_grid, slip_start, slip_budget, head_length, field_at, fields_end, label_field}
use Rattle.slip_fields.specs.Slip.{question13, question14, slip_question15, slip_read_questions}

-- what a field answers tells whether its bytes are there
pub told : {A : Type 0} (b : Bool) (x y : A) → cond b (Some x) None ≡ Some y → (b ≡ true) × (y ≡ x)
told true x y e = (refl, cc)
told false x y e = cc

pub untold : {A : Type 0} (b : Bool) (x : A) → cond b (Some x) None ≡ None → b ≡ false
untold true x e = cc
untold false x e = refl

pub then_some_is : {A : Type 0} (b : Bool) (x : A) → then_some b x ≡ cond b (Some x) None
then_some_is true x = refl
then_some_is false x = refl

module _ (slip : List ℕ) where
  -- the code is the number of the first question up to 15 that is answered no
  pub code_is : (slip_reading_of slip).code ≡ first_no (slip_read_questions slip)
  unfolding slip_reading_of
  code_is =
      ⊎_elim
      (λ z. rw (z, eqb-true (first_no (slip_read_questions slip)) 0 z))
      (λ z. rw z)
      (true_or_false (eqb (first_no (slip_read_questions slip)) 0))

  -- a slip that is read
  module _ (zero : (slip_reading_of slip).code ≡ 0) where
    pub number-zero : first_no (slip_read_questions slip) ≡ 0
    number-zero = sym code_is ∙ zero

    pub reading-accepted : slip_reading_of slip ≡ accepted slip
    unfolding slip_reading_of
    reading-accepted = rw (eq-eqb (first_no (slip_read_questions slip)) 0 number-zero)

    -- "The slip's label field is handed over as that part of the slip's bytes"
    pub handed : labels_in slip (slip_reading_of slip).table ≡ label_field slip
    unfolding labels_in
    handed =
        let then = then_runs slip number-zero in
        ⊎_elim
        (λ (two : stands slip 2 ≡ true). rw (reading-accepted, two) (sym (then.rest two)))
        (λ (two : stands slip 2 ≡ false).
        ⊎_elim
        (λ (three : stands slip 3 ≡ true). rw (reading-accepted, two, three) (sym (then.no_part two)))
        (λ (three : stands slip 3 ≡ false). rw (reading-accepted, two, three) (sym (then.no_part two)))
        (true_or_false (stands slip 3)))
        (true_or_false (stands slip 2))

  pub refused_13 : (question13 slip).answered_yes ≡ false → refused_reading 13 ≡ slip_reading_of slip
  unfolding slip_reading_of
  refused_13 e = rw (number_is, e)

  pub refused-grid : (n : ℕ) → (question13 slip).answered_yes ≡ true → first_no (grid_questions (slip_grid slip)) ≡ n
      → (n ≡ 0 → ⊥)
      → refused_reading n ≡ slip_reading_of slip
  unfolding slip_reading_of
  refused-grid n e f h = rw (number_is, e, f, ne_eqb n 0 h, ne_eqb n 0 h)

  fields-number : (a b : Bool) (x : SlipReading)
      → cond (eqb (cond a (cond b 0 15) 14) 0) x (refused_reading (cond a (cond b 0 15) 14))
      ≡ cond a (cond b x (refused_reading 15)) (refused_reading 14)
  fields-number true true x = refl
  fields-number true false x = refl
  fields-number false b x = refl

  -- behind questions 13 and 1 to 4
  module _ (head : (question13 slip).answered_yes ≡ true) (accepts : first_no (grid_questions (slip_grid slip)) ≡ 0) where
    reading-is : slip_reading_of slip
        ≡ cond (question14 slip).answered_yes
        (cond (slip_question15 slip).answered_yes (accepted slip) (refused_reading 15))
        (refused_reading 14)
    unfolding slip_reading_of first_no
    reading-is = rw (number_is, head, accepts)
        (fields-number (question14 slip).answered_yes (slip_question15 slip).answered_yes (accepted slip))

    pub refused_14 : (question14 slip).answered_yes ≡ false → refused_reading 14 ≡ slip_reading_of slip
    refused_14 e = sym (reading-is ∙ rw e)

    pub refused_15 : (question14 slip).answered_yes ≡ true → (slip_question15 slip).answered_yes ≡ false
        → refused_reading 15 ≡ slip_reading_of slip
    refused_15 e f = sym (reading-is ∙ rw (e, f))

    pub all_yes : (question14 slip).answered_yes ≡ true → (slip_question15 slip).answered_yes ≡ true
        → accepted slip ≡ slip_reading_of slip
    all_yes e f = rw (reading-is, e, f)

  -- what an accepted slip says, part by part
  pub parts_say : (g : GridStruct) (start : List ℕ) (budget : ℕ) (t : Table) → g ≡ grid_of (slip_grid slip)
      → start ≡ padded 16 (slip_start slip) → budget ≡ slip_budget slip → t ≡ table_named slip
      → slip_reading 0 g start budget t ≡ accepted slip
  parts_say g start budget t e f h i = cc

  pub head-there : (at : ℕ) → head_of slip ≡ Some at → ((question13 slip).answered_yes ≡ true) × (at ≡ head_length slip)
  unfolding head_of
  head-there at e = told (question13 slip).answered_yes (head_length slip) at e

  pub head_missing : head_of slip ≡ None → (question13 slip).answered_yes ≡ false
  unfolding head_of
  head_missing e = untold (question13 slip).answered_yes (head_length slip) e

  pub head_tested : (test : Bool) (end : ℕ) → test ≡ (question13 slip).answered_yes → end ≡ head_length slip
      → then_some test end ≡ head_of slip
  unfolding head_of
  head_tested test end e f = rw (e, f) (then_some_is (question13 slip).answered_yes (head_length slip))

  -- the start's bytes are there, or not
  pub start_is : field_at slip 1 ≤ length slip
      → start_of slip ≡ Some (record { numbers = padded 16 (slip_start slip); end = field_at slip 1 })
  unfolding start_of
  start_is h = rw (le-leb (field_at slip 1) (length slip) h)

  pub no_start : length slip < field_at slip 1 → start_of slip ≡ None
  unfolding start_of
  no_start h = rw (lt-leb (field_at slip 1) (length slip) h)

  pub start-there : (s : Start) → start_of slip ≡ Some s
      → (s.end ≡ field_at slip 1) × (s.end ≤ length slip) × (s.numbers ≡ padded 16 (slip_start slip))
  unfolding start_of
  start-there s e =
      let t = told (leb (field_at slip 1) (length slip)) _ s e in
      let fits = leb-true (field_at slip 1) (length slip) t.0 in
      rw t.1 (refl, fits, refl)

  pub start_missing : start_of slip ≡ None → (question14 slip).answered_yes ≡ false
  unfolding start_of
  start_missing e = inexact slip 1 4 (omega arith)
      (leb-false (field_at slip 1) (length slip) (untold (leb (field_at slip 1) (length slip)) _ e))

  -- and so of the budget
  pub budget-is : field_at slip 2 ≤ length slip
      → budget_of slip ≡ Some (record { places = slip_budget slip; end = field_at slip 2 })
  unfolding budget_of
  budget-is h = rw (le-leb (field_at slip 2) (length slip) h)

  pub no-budget : length slip < field_at slip 2 → budget_of slip ≡ None
  unfolding budget_of
  no-budget h = rw (lt-leb (field_at slip 2) (length slip) h)

  pub budget-there : (b : Budget) → budget_of slip ≡ Some b
      → (b.places ≡ slip_budget slip) × (b.end ≡ field_at slip 2) × (b.end ≤ length slip)
  unfolding budget_of
  budget-there b e =
      let t = told (leb (field_at slip 2) (length slip)) _ b e in
      let fits = leb-true (field_at slip 2) (length slip) t.0 in
      rw t.1 (refl, refl, fits)

  pub budget_missing : budget_of slip ≡ None → (question14 slip).answered_yes ≡ false
  unfolding budget_of
  budget_missing e = inexact slip 2 3 (omega arith)
      (leb-false (field_at slip 2) (length slip) (untold (leb (field_at slip 2) (length slip)) _ e))

  -- labels, game or losses
  pub table_is : (question14 slip).answered_yes ≡ true → table_of slip ≡ Some (table_named slip)
  unfolding table_of
  table_is e = rw e

  -- a test of whether the rest of the slip is the field
  pub table_tested : (left field : ℕ) (t : Table) → (left ≡ field → length slip ≡ fields_end slip)
      → (length slip ≡ fields_end slip → left ≡ field)
      → t ≡ table_named slip
      → then_some (eqb left field) t ≡ table_of slip
  unfolding table_of
  table_tested left field t h g e =
      ⊎_elim
      (λ (y : left ≡ field). rw (eq-eqb left field y, eq-eqb (length slip) (fields_end slip) (h y), e))
      (λ (n : left ≡ field → ⊥). rw (ne_eqb left field n, ne_eqb (length slip) (fields_end slip) (λ z. n (g z))))
      (same_or left field)

  pub no_table : (question14 slip).answered_yes ≡ false → table_of slip ≡ None
  unfolding table_of
  no_table e = rw e

  pub table-there : (t : Table) → table_of slip ≡ Some t
      → ((question14 slip).answered_yes ≡ true) × (t ≡ table_named slip)
  unfolding table_of
  table-there t e = told (question14 slip).answered_yes (table_named slip) t e

  pub table_missing : table_of slip ≡ None → (question14 slip).answered_yes ≡ false
  unfolding table_of
  table_missing e = untold (question14 slip).answered_yes (table_named slip) e

  -- the struct that the fields are read with
  module _ (grid : GridStruct) (a : Asked slip grid) where
    pub is-accepted : Accepted (slip_grid slip)
    is-accepted = grid-accepted (slip_grid slip) a.accepts

    pub asked-made : IsMade grid × (shape grid ≡ slip_grid slip)
    asked-made = (
      rw a.is_grid (is_made (slip_grid slip) a.accepts),
      ap shape a.is_grid ∙ shape_of (slip_grid slip) is-accepted.same_number,
    )

    pub asked-indices : (grid.indices ≡ num_indices (slip_grid slip)) × (grid.indices ≤ 16)
    unfolding grid_of
    asked-indices =
        let i : grid.indices ≡ num_indices (slip_grid slip) = ap (λ z. z.indices) a.is_grid in
        (i, omega (arith, is-accepted.few_indices))

    pub asked-points : grid.points ≡ num_points (slip_grid slip)
    unfolding grid_of
    asked-points = ap (λ z. z.points) a.is_grid
