-- Request 05: what holds of every level of a refinement that its questions let pass. Assumes nothing.
use Rattle.std.specs.Prelude.{true, List, [], ◌∷◌, map, ◌≡◌, ℕ, suc, pred, ◌^◌, ◌≤◌, ◌<◌, length}
use Rattle.combinatorics.specs.Front.{front}
use Rattle.combinatorics.specs.Lists.{sum, up_from}
use Rattle.finder.specs.Demand.{AcceptedWith, RunDemand3, RunEnded, announcement_of}
use Rattle.finder.specs.Run.{case_of, run_answer, run_buffer}
use Rattle.grid_points.specs.Grid.{Grid, bound, is_grid_point}
use Rattle.grid_points.specs.Questions.{question1, question2, question3, question4}
use Rattle.place.specs.Path.{path_length}
use Rattle.questions.specs.Questions.{first_no}
use Rattle.refinement_levels.specs.Levels.{Refinement, first_vertex, grid_at, level_end, level_grid, level_problem}
use Rattle.refinement_levels.specs.Levels.{times}
use Rattle.refinement_levels.specs.Buffers.{level_numbers}
use Rattle.refinement_levels.specs.Questions.{level_questions, level_room, refine_questions}

-- level i, beside a run of its own whose answer buffer has enough room
pub record Level (r : Refinement) (i room : ℕ) : Type 0 where
  -- "Every level obeys all that holds for a run of its own": its table is accepted, so demand 3 holds of it
  pub accepted : AcceptedWith (level_problem r i) room
  pub demand3 : RunDemand3 (level_problem r i) room
  -- the level's answer and vertices are those of that run, with its bound as budget
  pub own : run_answer (level_problem r i) room (bound (level_grid r i)) ≡ case_of (level_end r i)
  pub written : (old : List ℕ) → length old ≡ room
      → run_buffer (level_problem r i) (bound (level_grid r i)) old ≡ front (level_numbers r i) old
  -- no level is spent, and none asks for a label: each announces the end of its path
  pub ended : RunEnded (level_problem r i) room
  pub announced : case_of (level_end r i) ≡ announcement_of (level_problem r i) ended.path.end

-- what is asked of all levels, and what is said of all
pub record Levels (r : Refinement) (levels : ℕ) : Type 0 where
  pub each : (i : ℕ) → i < levels → (room : ℕ) → level_room r.grid ≤ room → Level r i room
  -- "k times the first vertex" is a grid point of the next grid
  pub restarts : (i : ℕ) → suc i < levels
      → is_grid_point (level_grid r (suc i)) (times r.factor (first_vertex (level_problem r i))) ≡ true
  -- "the total of places is within the sum of the levels' bounds", which fits 64 bits
  pub total : sum (map (λ i. path_length (level_problem r i)) (up_from 0 levels))
      ≤ sum (map (λ i. bound (level_grid r i)) (up_from 0 levels))
  pub fits : sum (map (λ i. bound (level_grid r i)) (up_from 0 levels)) < 2 ^ 64

abbrev pub EveryRefinement : Type 0
EveryRefinement = (r : Refinement) (levels : ℕ) (buffer : List ℕ) (room : ℕ)
    → first_no (refine_questions r levels buffer room) ≡ 0 → Levels r levels

-- Questions 1 to 4 of all levels are 1 to 3 of the first and 4 of the last: 1 to 3 are the same at every level, and 4
-- can only go from
-- yes to no. So it does not show whether they are put level by level or question by question.
abbrev pub AskedOfAll : Type 0
AskedOfAll = (g : Grid) (k levels : ℕ) → 1 ≤ k → 1 ≤ levels
    → first_no (level_questions g k levels)
    ≡ first_no (question1 g ∷ question2 g ∷ question3 g ∷ question4 (grid_at g k (pred levels)) ∷ [])
