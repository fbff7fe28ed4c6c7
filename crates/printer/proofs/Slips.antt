-- What a slip that is read leaves to its losses and to the run, and so what it prints. Assumes nothing.
use mathlib.Core.Bool.{true, false}
use mathlib.Core.List.{List}
use mathlib.Core.Logic.{⊎_elim}
use mathlib.Core.Path.{◌≡◌, sym, ap, ◌∙◌}
use Prim.Native.Nat.{ℕ, suc, ◌+◌, ◌*◌, ◌≤◌}
use borrow.Author.Tests.{ne_eqb, le-leb}
use lib.ListN.{length, length-map, take, replicate}
use native.Mathlib.Nat.{mul-le-mul, mul-le-mul_right}
use native.Mathlib.Omega.{arith}
use Rattle.combinatorics.proofs.Basics.{true_or_false}
use Rattle.combinatorics.proofs.Fronts.{front_length, front_taken}
use Rattle.combinatorics.proofs.Ranges.{length-up_from}
use Rattle.combinatorics.specs.Lists.{up_from}
use Rattle.little_endian.specs.Numbers.{number, words}
use Rattle.game_losses.proofs.Table.{product-few}
use Rattle.game_losses.specs.Game.{product, labels}
use Rattle.game_losses.specs.Table.{IsTable}
use Rattle.grid_points.proofs.Accepted.{accepted as grid-accepted}
use Rattle.grid.proofs.Fields.{is_made, shape_of}
use Rattle.grid_points.specs.Grid.{Grid, num_blocks, dimension, num_indices}
use Rattle.grid.specs.Made.{grid_of, shape}
use Rattle.place.specs.Problem.{Problem}
use Rattle.place.specs.Questions.{question8}
use Rattle.sheet_lines.specs.Sheet.{refused_sheet}
use Rattle.questions.specs.Questions.{first_no}
use Rattle.slip_fields.proofs.Laws.{labels-only}
use Rattle.slip_fields.proofs.Runs.{answers, refused_as-read, then_runs}
use Rattle.slip.proofs.Readings.{code_is, number-zero, reading-accepted, handed}
use Rattle.slip.specs.Reading.{refused_reading, slip_reading_of, labels_in}
use Rattle.slip_fields.specs.Slip.{stands, field_at, default_coordinate, slip_grid, slip_start, slip_losses, slip_labels}
use Rattle.slip_fields.specs.Slip.{slip_problem, slip_question11, slip_read_questions}
use Rattle.printer.specs.Printed.{sheet_of}
use Rattle.printer.specs.Run.{room, HasGrid, problem_with, loss_problem, run_sheet}

pub refusal-printed : (slip : List ℕ) → ((slip_reading_of slip).code ≡ 0 → ⊥)
    → sheet_of slip ≡ refused_sheet (slip_reading_of slip).code
unfolding sheet_of
refusal-printed slip h =
    let refused = (refused_as-read slip).refused (λ e. h (code_is slip ∙ e)) ∙ sym (code_is slip) in
    rw (refused, ne_eqb (slip_reading_of slip).code 0 h)

pub refused_by : (slip : List ℕ) (number : ℕ) → (number ≡ 0 → ⊥) → refused_reading number ≡ slip_reading_of slip
    → sheet_of slip ≡ refused_sheet number
refused_by slip number h e =
    refusal-printed slip (λ z. h (ap (λ r. r.code) e ∙ z)) ∙ ap (λ r. refused_sheet r.code) (sym e)

-- a slip that is read
module _ (slip : List ℕ) (zero : (slip_reading_of slip).code ≡ 0) where
  asked : first_no (slip_read_questions slip) ≡ 0
  asked = number-zero slip zero

  start-length : length (slip_start slip) ≡ num_indices (slip_grid slip)
  unfolding slip_start words
  start-length =
      let m = num_indices (slip_grid slip) in
      ⊎_elim
      (λ y. rw y (length-map (up_from 0 m) (λ i. number 2 slip (field_at slip 0 + 2 * i)) ∙ length-up_from 0 m))
      (λ n. rw n (length-map (up_from 0 m) (default_coordinate (slip_grid slip)) ∙ length-up_from 0 m))
      (true_or_false (stands slip 0))

  grid-is : shape (slip_reading_of slip).grid ≡ slip_grid slip
  grid-is = ap (λ r. shape r.grid) (reading-accepted slip zero)
      ∙ shape_of (slip_grid slip) (grid-accepted (slip_grid slip) (answers slip asked).1).same_number

  pub has-grid : HasGrid (slip_reading_of slip)
  has-grid =
      let few = (grid-accepted (slip_grid slip) (answers slip asked).1).few_indices in
      rw (reading-accepted slip zero) (record {
        made = is_made (slip_grid slip) (answers slip asked).1;
        whole = front_length (slip_start slip) (replicate 16 0) (omega (arith, few, start-length));
      })

  problem-is : (labels : List ℕ) → labels ≡ slip_labels slip → problem_with (slip_reading_of slip) labels ≡ slip_problem slip
  unfolding grid_of
  problem-is labels e =
      let start : take (slip_reading_of slip).grid.indices (slip_reading_of slip).start ≡ slip_start slip =
      rw (reading-accepted slip zero, ← start-length) (front_taken (slip_start slip) (replicate 16 0)) in
      rw (grid-is, start, e)

  enough : (question8 (slip_grid slip) room).answered_yes ≡ true
  enough =
      let a = grid-accepted (slip_grid slip) (answers slip asked).1 in
      let m = num_indices (slip_grid slip) in
      le-leb (suc (dimension (slip_grid slip)) * m) room (omega (
        arith,
        a.few_indices,
        mul-le-mul_right m
            (let l : suc (dimension (slip_grid slip)) ≤ 16 = omega (arith, a.some_block, a.few_indices) in l),
      ))

  pub out_of_range-printed : (slip_question11 slip).answered_yes ≡ false → sheet_of slip ≡ refused_sheet 11
  unfolding sheet_of
  out_of_range-printed e = rw ((then_runs slip asked).out_of_range e)

  -- with the slip's labels the run prints the slip's sheet
  prints : (slip_question11 slip).answered_yes ≡ true → (labels : List ℕ) → labels ≡ slip_labels slip
      → run_sheet (problem_with (slip_reading_of slip) labels) (slip_reading_of slip).budget ≡ sheet_of slip
  unfolding run_sheet sheet_of
  prints range labels e =
      ap (λ (p : Problem). run_sheet p (slip_reading_of slip).budget) (problem-is labels e)
      ∙ ap (λ r. run_sheet (slip_problem slip) r.budget) (reading-accepted slip zero)
      ∙ rw ((then_runs slip asked).runs range room enough)

  pub table-printed : stands slip 2 ≡ true
      → run_sheet (problem_with (slip_reading_of slip) (labels_in slip (slip_reading_of slip).table))
      (slip_reading_of slip).budget
      ≡ sheet_of slip
  table-printed two =
      let four = (labels-only slip (answers slip asked).0 two).1 in
      prints (rw four) (labels_in slip (slip_reading_of slip).table)
      (handed slip zero ∙ sym ((then_runs slip asked).table two))

  module _ (two : stands slip 2 ≡ false) (range : (slip_question11 slip).answered_yes ≡ true) where
    pub losses-printed : run_sheet (loss_problem (slip_reading_of slip) (slip_losses slip)) (slip_reading_of slip).budget
        ≡ sheet_of slip
    losses-printed =
        prints range _ (ap (λ (g : Grid). labels g (slip_losses slip)) grid-is ∙ sym ((then_runs slip asked).game two))

    pub is-table : IsTable (shape (slip_reading_of slip).grid) (slip_losses slip)
    is-table = rw grid-is ((then_runs slip asked).losses two range)

    -- at most 1,944 losses
    pub losses-few : length (slip_losses slip) ≤ 1944
    losses-few =
        let a = grid-accepted (slip_grid slip) (answers slip asked).1 in
        let t = (then_runs slip asked).losses two range in
        let most = mul-le-mul {n₁ = num_blocks (slip_grid slip)} {m₁ = product (slip_grid slip).sizes} {n₂ = 6} {m₂ = 324}
        a.few_blocks (product-few (slip_grid slip).sizes a.few_indices) in
        omega (arith, t.whole, most)
