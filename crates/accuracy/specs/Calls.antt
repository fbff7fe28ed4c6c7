-- What the calls answer, write and print over a game's labels is accurate: every yes of the checker, every end of a
-- run, every level of a refinement, every sheet of a slip with a game or with losses. Blocks count from 1 in what is
-- answered. Assumes nothing.
use Rattle.std.specs.Prelude.{false, true, List, ◌≡◌, ℕ, suc, ◌*◌, ◌<◌, length}
use Rattle.accuracy.specs.Accuracy.{Accurate, allowance, losses_within}
use Rattle.check_ends.specs.EachEnd.{level_answered, level_written, vertex_numbers_in}
use Rattle.checker.specs.Check.{check_answer, listed_points}
use Rattle.checker.specs.declared.CheckAnswer.TheVariants.{Yes}
use Rattle.end_kinds.specs.declared.Kind.{Kind}
use Rattle.finder.specs.Run.{run_answer, run_buffer}
use Rattle.finder.specs.declared.answers.RunAnswer.TheVariants.{End}
use Rattle.game_labels.specs.Labelling.{label_answer, label_buffer}
use Rattle.game_labels.specs.declared.Labelled.TheVariants.{Written}
use Rattle.game_losses.specs.Game.{product}
use Rattle.grid_points.specs.Grid.{Grid, Point, bound, lent, num_blocks}
use Rattle.place.specs.Path.{answer, ended, spent}
use Rattle.place.specs.Places.{Simplex}
use Rattle.place.specs.Problem.{problem_of}
use Rattle.printer.specs.Printed.{index_divisions, sheet_of}
use Rattle.refinement.specs.Answer.{refine_answer}
use Rattle.refinement_levels.specs.Levels.{Refinement, level_grid}
use Rattle.sheet_lines.specs.Sheet.{end_sheet, refused_sheet, spent_sheet}
use Rattle.slip_fields.specs.Slip.{slip_budget, slip_grid, slip_losses, slip_problem, slip_refusal, stands}

-- accurate for the block that an answer names, whichever R holds the losses
pub record AccurateFor (g : Grid) (losses : List ℕ) (s : Simplex) (block : ℕ) : Type 0 where
  pub named : ℕ
  pub counted : block ≡ suc named
  pub inside : named < num_blocks g
  -- "R = 999 ..": this R serves for every game
  pub always : losses_within 1 999 losses ≡ true
  pub accurate : (low range : ℕ) → losses_within low range losses ≡ true → Accurate g losses range s named

-- over the table that a labelling has written
pub record OverLabels (sizes divisions losses buffer : List ℕ) : Type 0 where
  -- every yes of the checker,
  pub checked : (numbers : List ℕ) (block : ℕ)
      → (let g = lent sizes divisions in
      check_answer g (label_buffer sizes divisions losses buffer) numbers ≡ Yes block
      → AccurateFor g losses (listed_points g numbers) block)
  -- and "an end of either kind" that a run announces, from any start and with any budget: the points in its buffer
  pub announced : (start : Point) (budget : ℕ) (old : List ℕ) (places read : ℕ) (kind : Kind) (block vertices : ℕ)
      → (let p = problem_of sizes divisions start (label_buffer sizes divisions losses buffer) in
      run_answer p (length old) budget ≡ End places read kind block vertices
      → AccurateFor p.grid losses
      (listed_points p.grid (vertex_numbers_in p.grid vertices (run_buffer p budget old))) block)

abbrev pub EveryLabellingAccurate : Type 0
EveryLabellingAccurate = (sizes divisions losses buffer : List ℕ) (count : ℕ)
    → label_answer sizes divisions losses buffer ≡ Written count → OverLabels sizes divisions losses buffer

-- "It is divided by k with each level": of a grid with k times the divisions of another the amount is the k-th part,
-- each compared with its own D
abbrev pub AllowanceDivided : ℕ → Grid → Grid → Type 0
AllowanceDivided k g fine = (range j : ℕ) → j < num_blocks g
    → product fine.divisions * allowance g range j ≡ k * (product g.divisions * allowance fine range j)

-- every level of a refinement that is not refused, with its vertices in the answer buffer
pub record AccurateLevels (r : Refinement) (levels : ℕ) (labels old : List ℕ) : Type 0 where
  pub each : (i : ℕ) → i < levels
      → (let level = level_answered r levels labels old i in let g = level_grid r i in
      AccurateFor g r.losses
      (listed_points g (vertex_numbers_in g level.vertices (level_written r levels labels old i)))
      level.block)
  pub divided : (i : ℕ) → suc i < levels → AllowanceDivided r.factor (level_grid r i) (level_grid r (suc i))

abbrev pub EveryRefinementAccurate : Type 0
EveryRefinementAccurate = (r : Refinement) (levels : ℕ) (labels old : List ℕ) → (refine_answer r levels labels old).code
    ≡ 0
    → AccurateLevels r levels labels old

-- A sheet of a slip without labels, so with a game or with losses, refuses, or says that the budget is spent, or prints
-- the vertices of an accurate simplex.
pub data AccurateSheet (slip : List ℕ) : Type 0 where
  refused : (slip_refusal slip ≡ 0 → ⊥) → sheet_of slip ≡ refused_sheet (slip_refusal slip) → AccurateSheet slip
  spent_budget : slip_refusal slip ≡ 0 → answer (slip_problem slip) (slip_budget slip) ≡ spent (slip_budget slip)
      → sheet_of slip ≡ spent_sheet (slip_budget slip) → AccurateSheet slip
  printed : (places read : ℕ) (kind : Kind) (block vertices : ℕ) (simplex : Simplex) → slip_refusal slip ≡ 0
      → answer (slip_problem slip) (slip_budget slip) ≡ ended places read kind block vertices simplex
      → sheet_of slip ≡ end_sheet places read (bound (slip_grid slip)) kind block simplex (index_divisions (slip_grid slip))
      → AccurateFor (slip_grid slip) (slip_losses slip) simplex block → AccurateSheet slip

abbrev pub EverySheetAccurate : Type 0
EverySheetAccurate = (slip : List ℕ) → stands slip 2 ≡ false → AccurateSheet slip
