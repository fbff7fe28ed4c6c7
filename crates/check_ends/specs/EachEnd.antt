-- Request 07, "Each end we print gets yes": of what a run, a refinement and the kiosk answer, write and print, given to
-- the checker as it stands there. Assumes nothing.
use Rattle.std.specs.Prelude.{List, ◌≡◌, ℕ, ◌*◌, ◌<◌, length, drop, get_or, take}
use Rattle.checker.specs.Check.{check_answer}
use Rattle.checker.specs.declared.CheckAnswer.TheVariants.{Yes}
use Rattle.combinatorics.specs.Lists.{concat_map}
use Rattle.end_kinds.specs.declared.Kind.{Kind}
use Rattle.finder.specs.Run.{run_answer, run_buffer}
use Rattle.finder.specs.declared.answers.RunAnswer.TheVariants.{End}
use Rattle.game_losses.specs.Game.{labels as labels_of}
use Rattle.grid_points.specs.Grid.{Grid, bound, num_indices}
use Rattle.place.specs.Path.{answer, ended}
use Rattle.place.specs.Places.{Simplex}
use Rattle.place.specs.Problem.{Problem}
use Rattle.printer.specs.Printed.{index_divisions, sheet_of}
use Rattle.refinement.specs.Answer.{answer_left, no_level, refine_answer}
use Rattle.refinement.specs.declared.Level.{Level}
use Rattle.refinement_levels.specs.Levels.{Refinement, level_grid}
use Rattle.refinement_levels.specs.Questions.{level_room}
use Rattle.sheet_lines.specs.Sheet.{end_sheet}
use Rattle.slip_fields.specs.Slip.{slip_budget, slip_grid, slip_labels, slip_problem, slip_refusal}

-- the numbers of some vertices at the front of a buffer, "m 16-bit numbers each"
abbrev pub vertex_numbers_in : Grid → ℕ → List ℕ → List ℕ
vertex_numbers_in g vertices buffer = take (vertices * num_indices g) buffer

-- whatever the budget and the buffer, an end that a run announces gets yes with its block, by the vertices in the
-- buffer
abbrev pub EachRunGetsYes : Type 0
EachRunGetsYes = (p : Problem) (budget : ℕ) (old : List ℕ) (places read : ℕ) (kind : Kind) (block vertices : ℕ)
    → run_answer p (length old) budget ≡ End places read kind block vertices
    → check_answer p.grid p.labels (vertex_numbers_in p.grid vertices (run_buffer p budget old)) ≡ Yes block

-- what a refinement answers of level i, and the numbers from the level's place in the answer buffer on
abbrev pub level_answered : Refinement → ℕ → List ℕ → List ℕ → ℕ → Level
level_answered r levels labels old i = get_or (refine_answer r levels labels old).levels i no_level

abbrev pub level_written : Refinement → ℕ → List ℕ → List ℕ → ℕ → List ℕ
level_written r levels labels old i = drop (i * level_room r.grid) (answer_left r levels labels old)

-- so does each level of a refinement, over the labels of its own grid
abbrev pub EachLevelGetsYes : Type 0
EachLevelGetsYes = (r : Refinement) (levels : ℕ) (labels old : List ℕ)
    → (refine_answer r levels labels old).code ≡ 0 → (i : ℕ) → i < levels
    → (let g = level_grid r i in let level = level_answered r levels labels old i in
    check_answer g (labels_of g r.losses)
    (vertex_numbers_in g level.vertices (level_written r levels labels old i))
    ≡ Yes level.block)

-- and each sheet: the vertices that are printed, over the slip's labels or its game's
pub record SheetGetsYes (slip : List ℕ) (places read : ℕ) (kind : Kind) (block : ℕ) (simplex : Simplex) : Type 0 where
  pub prints : sheet_of slip
      ≡ end_sheet places read (bound (slip_grid slip)) kind block simplex (index_divisions (slip_grid slip))
  pub yes : check_answer (slip_grid slip) (slip_labels slip) (concat_map (λ y. y) simplex) ≡ Yes block

abbrev pub EachSheetGetsYes : Type 0
EachSheetGetsYes = (slip : List ℕ) → slip_refusal slip ≡ 0 → (places read : ℕ) (kind : Kind) (block vertices : ℕ)
    (simplex : Simplex)
    → answer (slip_problem slip) (slip_budget slip) ≡ ended places read kind block vertices simplex
    → SheetGetsYes slip places read kind block simplex
