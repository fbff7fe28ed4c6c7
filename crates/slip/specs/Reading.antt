-- What the functions of the crate answer, by document 01's definitions. Assumes nothing.
use Rattle.std.specs.Prelude.{true, false, cond, List, [], Option, Some, None, ◌≡◌, ℕ, eqb, leb, length, drop, replicate}
use Rattle.grid.specs.declared.Grid.{Grid as GridStruct}
use Rattle.combinatorics.specs.Front.{padded}
use Rattle.grid.specs.Made.{grid_of, no_grid}
use Rattle.questions.specs.Questions.{first_no}
use Rattle.grid_points.specs.Questions.{grid_questions}
use Rattle.slip_fields.specs.Slip.{stands, slip_grid, slip_start, slip_budget, slip_game, slip_losses, field_at}
use Rattle.slip_fields.specs.Slip.{slip_read_questions}
use Rattle.slip_fields.specs.Slip.{head_length}
use Rattle.slip_fields.specs.Slip.{slip_question11, question13, question14}
use Rattle.slip.specs.declared.Budget.{Budget}
use Rattle.slip.specs.declared.SlipReading.{SlipReading}
use Rattle.slip.specs.declared.Start.{Start}
use Rattle.slip.specs.declared.Table.{Table}
use Rattle.slip.specs.declared.Table.TheVariants.{LabelsFrom, Game, LossesFrom}

-- map, N, sizes and divisions as a field: the position behind them, unless question 13 is answered no
unfoldable pub head_of : List ℕ → Option ℕ
head_of slip = cond (question13 slip).answered_yes (Some (head_length slip)) None

-- the start where its bytes are there, and the position behind them
unfoldable pub start_of : List ℕ → Option Start
start_of slip =
    cond (leb (field_at slip 1) (length slip))
    (Some (record { numbers = padded 16 (slip_start slip); end = field_at slip 1 })) None

-- the budget where its bytes are there, and the position behind them
unfoldable pub budget_of : List ℕ → Option Budget
budget_of slip =
    cond (leb (field_at slip 2) (length slip))
    (Some (record { places = slip_budget slip; end = field_at slip 2 })) None

-- the one of labels, game and losses that the map names
abbrev pub table_named : List ℕ → Table
table_named slip = cond (stands slip 2) (LabelsFrom (field_at slip 2))
    (cond (stands slip 3) (Game (slip_game slip)) (LossesFrom (field_at slip 4)))

-- unless question 14 is answered no
unfoldable pub table_of : List ℕ → Option Table
table_of slip = cond (question14 slip).answered_yes (Some (table_named slip)) None

abbrev pub slip_reading : ℕ → GridStruct → List ℕ → ℕ → Table → SlipReading
slip_reading code grid start budget table = record {
  code = code;
  grid = grid;
  start = start;
  budget = budget;
  table = table;
}

-- "A refusal returns its number", and zeros stand beside it
abbrev pub refused_reading : ℕ → SlipReading
refused_reading number = slip_reading number no_grid (replicate 16 0) 0 (LabelsFrom 0)

-- what an accepted slip says
abbrev pub accepted : List ℕ → SlipReading
accepted slip = slip_reading 0 (grid_of (slip_grid slip)) (padded 16 (slip_start slip)) (slip_budget slip) (table_named slip)

-- the number of the first of the questions up to 15 that is answered no, or 0 and what the slip says
unfoldable pub slip_reading_of : List ℕ → SlipReading
slip_reading_of slip = let number = first_no (slip_read_questions slip) in cond (eqb number 0) (accepted slip)
    (refused_reading number)

-- the part of the slip's bytes where a reading has the labels; empty where it has none
unfoldable pub labels_in : List ℕ → Table → List ℕ
labels_in slip (LabelsFrom begin) = drop begin slip
labels_in slip (Game number) = []
labels_in slip (LossesFrom begin) = []

-- question 11 of a slip with a game or losses, and how many losses there are
unfoldable pub losses_on_slip : List ℕ → Option ℕ
losses_on_slip slip = cond (slip_question11 slip).answered_yes (Some (length (slip_losses slip))) None

-- where the fields are read: questions 13 and 1 to 4 are answered yes, and the struct is the slip's grid
pub record Asked (slip : List ℕ) (grid : GridStruct) : Type 0 where
  pub head : (question13 slip).answered_yes ≡ true
  pub accepts : first_no (grid_questions (slip_grid slip)) ≡ 0
  pub is_grid : grid ≡ grid_of (slip_grid slip)

-- a reading of a slip with a game or losses, and room for the losses
pub record WithLosses (slip : List ℕ) (r : SlipReading) (room : List ℕ) : Type 0 where
  pub is_reading : r ≡ slip_reading_of slip
  pub read : r.code ≡ 0
  pub no_labels : stands slip 2 ≡ false
  pub whole : length room ≡ 1944
