-- "A slip asks 13, 1 to 4, 14, 15, 5, 7, and then runs", and 11 after 15: what the questions up to 15, which reading a
-- slip asks, leave to its losses and to the run. Assumes nothing.
use Rattle.std.specs.Prelude.{true, false, List, [], ◌≡◌, ℕ, drop}
use Rattle.game_losses.specs.Game.{labels}
use Rattle.game_losses.specs.Table.{IsTable}
use Rattle.questions.specs.Questions.{first_no}
use Rattle.place.specs.Questions.{question8, run_questions}
use Rattle.slip_fields.specs.Slip.{stands, slip_grid, slip_losses, slip_labels, label_field, field_at, slip_problem}
use Rattle.slip_fields.specs.Slip.{slip_question11, slip_read_questions, slip_refusal}

-- a slip that is refused as it is read has no other refusal
pub record RefusedAsRead (slip : List ℕ) : Type 0 where
  pub refused : (first_no (slip_read_questions slip) ≡ 0 → ⊥) → slip_refusal slip ≡ first_no (slip_read_questions slip)

-- of any other slip
pub record ThenRuns (slip : List ℕ) : Type 0 where
  -- question 11 is asked next
  pub out_of_range : (slip_question11 slip).answered_yes ≡ false → slip_refusal slip ≡ 11
  -- the run that has room for its answer asks what is left: 6 is answered yes, and 5 and 7 refuse as they refuse
  -- the slip
  pub runs : (slip_question11 slip).answered_yes ≡ true → (room : ℕ) → (question8 (slip_grid slip) room).answered_yes ≡ true
      → first_no (run_questions (slip_problem slip) room) ≡ slip_refusal slip
  -- with labels the label table is the label field, and the field is the rest of the slip
  pub table : stands slip 2 ≡ true → slip_labels slip ≡ label_field slip
  pub rest : stands slip 2 ≡ true → label_field slip ≡ drop (field_at slip 2) slip
  -- "With a game that part is empty", and the label table is that of the losses, which are a table of the grid
  pub no_part : stands slip 2 ≡ false → label_field slip ≡ []
  pub game : stands slip 2 ≡ false → slip_labels slip ≡ labels (slip_grid slip) (slip_losses slip)
  pub losses : stands slip 2 ≡ false → (slip_question11 slip).answered_yes ≡ true
      → IsTable (slip_grid slip) (slip_losses slip)
