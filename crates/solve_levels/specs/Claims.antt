-- Solving on fine grids: what holds of every game that its questions let pass. Assumes nothing.
use Rattle.std.specs.Prelude.{[], ◌∷◌, ◌↔◌, ◌≡◌, ℕ, pred, ◌≤◌, ◌<◌, ℤ, take}
use Rattle.grid_points.specs.Grid.{Grid}
use Rattle.path_laws.specs.Demand.{Demand3, Ended, HasTable}
use Rattle.place.specs.Path.{path_length}
use Rattle.questions.specs.Questions.{first_no}
use Rattle.refinement_levels.specs.Levels.{Refinement, grid_at, level_end, level_problem}
use Rattle.solve_levels.specs.Questions.{limit_questions, question24, solve_questions}
use Rattle.solve_levels.specs.Solving.{level_answer, level_answers, solve_answer, solved, stopped}

-- level i is a run of its own over the game's labels: demand 3 holds of it, however many grid points there are
pub record SolvedLevel (r : Refinement) (i : ℕ) : Type 0 where
  pub table : HasTable (level_problem r i)
  pub demand3 : Demand3 (level_problem r i)
  -- no label is missing, so its path ends
  pub ended : Ended (level_problem r i)
  -- and with any budget of its length it answers what a refinement's level answers
  pub as_refined : (budget : ℕ) → path_length (level_problem r i) ≤ budget → level_answer r budget i ≡ level_end r i

-- each of the first n levels is within the budget
abbrev pub Within : Refinement → ℕ → ℕ → Type 0
Within r n budget = (i : ℕ) → i < n → path_length (level_problem r i) ≤ budget

-- a budget that reaches the end of the last level
abbrev pub Solves : Refinement → ℕ → ℕ → ℕ → Type 0
Solves r levels budget room = (vertex : ℕ) × (gain : ℤ) × (solve_answer r levels budget room ≡ solved vertex gain)

pub record Solved (r : Refinement) (levels room : ℕ) : Type 0 where
  pub each : (i : ℕ) → i < levels → SolvedLevel r i
  -- a level is called spent exactly if those before it are within the budget and it is not
  pub stops : (budget i : ℕ) → (solve_answer r levels budget room ≡ stopped i budget)
      ↔ ((i < levels) × Within r i budget × (budget < path_length (level_problem r i)))
  -- and an end is answered exactly if all are
  pub solves : (budget : ℕ) → Solves r levels budget room ↔ Within r levels budget
  -- any two budgets that reach an end agree
  pub alike : (b c : ℕ) → Solves r levels b room → Solves r levels c room
      → (solve_answer r levels b room ≡ solve_answer r levels c room)
      × (level_answers r levels b ≡ level_answers r levels c)

abbrev pub EverySolve : Type 0
EverySolve = (r : Refinement) (levels room : ℕ) → first_no (solve_questions r levels room) ≡ 0 → Solved r levels room

-- fewer levels, the same first answers
abbrev pub FewerLevels : Type 0
FewerLevels = (r : Refinement) (n levels budget : ℕ) → n ≤ levels
    → take n (level_answers r levels budget) ≡ level_answers r n budget

-- 24 can only go from yes to no, so the last level's divisions decide it, however it is asked
abbrev pub LastDecides : Type 0
LastDecides = (g : Grid) (k levels : ℕ) → 1 ≤ k → 1 ≤ levels
    → first_no (limit_questions g k levels) ≡ first_no (question24 (grid_at g k (pred levels)) ∷ [])
