-- The sheet of a run, and that of an answer in its buffer. The customer's promise does not cite them. Assumes nothing.
use Rattle.std.specs.Prelude.{false, cond, List, ◌≡◌, ℕ, ◌*◌, ◌≤◌, eqb, length, take}
use Rattle.combinatorics.specs.Front.{front}
use Rattle.end_kinds.specs.declared.Kind.{Kind}
use Rattle.finder.specs.Run.{run_refusal}
use Rattle.finder.specs.declared.answers.RunAnswer.{RunAnswer}
use Rattle.finder.specs.declared.answers.RunAnswer.TheVariants.{Refused, Spent, Unknown, End}
use Rattle.game_losses.specs.Game.{labels}
use Rattle.grid_points.specs.Grid.{Grid, num_indices, bound}
use Rattle.grid.specs.Made.{IsMade, shape}
use Rattle.place.specs.Path.{answer}
use Rattle.place.specs.Problem.{Problem}
use Rattle.sheet_lines.specs.Answer.{rows}
use Rattle.sheet_lines.specs.Sheet.{end_sheet, refused_sheet, spent_sheet, unknown_sheet}
use Rattle.slip.specs.declared.SlipReading.{SlipReading}
use Rattle.slip.specs.Reading.{slip_reading_of}
use Rattle.slip_fields.specs.Slip.{stands}
use Rattle.printer.specs.Printed.{answer_sheet, index_divisions}

-- the numbers of the answer buffer, which is enough for every grid: (n + 1) times m is at most 16 times 16
abbrev pub room : ℕ
room = 256

-- what an answer of the finder prints, with its vertices at the front of the buffer
unfoldable pub printed : Grid → RunAnswer → List ℕ → List ℕ
printed g (Refused number) buffer = refused_sheet number
printed g (Spent places) buffer = spent_sheet places
printed g (Unknown places place) buffer = unknown_sheet places place
printed g (End places read kind block vertices) buffer =
    end_sheet places read (bound g) kind block (rows vertices (num_indices g) buffer) (index_divisions g)

-- the vertices of an answer are at least one, at most 16, and all in the buffer
pub record Fits (g : Grid) (answer : RunAnswer) (buffer : List ℕ) : Type 0 where
  pub end : (places read : ℕ) (kind : Kind) (block vertices : ℕ) → answer ≡ End places read kind block vertices
      → (1 ≤ vertices) × (vertices ≤ 16) × (vertices * num_indices g ≤ length buffer)

-- what a call has printed: how many bytes, and that they stand at the front
pub record Prints (sheet old : List ℕ) (count : ℕ) (new : List ℕ) : Type 0 where
  pub counted : count ≡ length sheet
  pub stands : new ≡ front sheet old

-- what a reading leaves to the run: a grid that was made, and the start's numbers at the front of the array
pub record HasGrid (r : SlipReading) : Type 0 where
  pub made : IsMade r.grid
  pub whole : length r.start ≡ 16

-- the reading of a slip that is accepted as it is read and has no labels
pub record IsGameReading (slip : List ℕ) (r : SlipReading) : Type 0 where
  pub is_reading : r ≡ slip_reading_of slip
  pub read : r.code ≡ 0
  pub no_labels : stands slip 2 ≡ false

-- the problem of a reading and a label table
abbrev pub problem_with : SlipReading → List ℕ → Problem
problem_with r labels = record { grid = shape r.grid; start = take r.grid.indices r.start; labels = labels }

-- and that of a reading and losses
abbrev pub loss_problem : SlipReading → List ℕ → Problem
loss_problem r losses = problem_with r (labels (shape r.grid) losses)

-- what the run on a problem prints
unfoldable pub run_sheet : Problem → ℕ → List ℕ
run_sheet p budget =
    cond (eqb (run_refusal p room) 0) (answer_sheet p.grid (answer p budget)) (refused_sheet (run_refusal p room))
