-- What a run asks on an accepted grid, and what stands behind its questions. Assumes nothing.
use Rattle.std.specs.Prelude.{List, [], ◌∷◌, ℕ, suc, ◌*◌, ◌≤◌, length}
use Rattle.questions.specs.Questions.{Question}
use Rattle.grid_points.specs.Grid.{dimension, num_indices}
use Rattle.grid.specs.Made.{shape}
use Rattle.grid_points.specs.Questions.{question5}
use Rattle.grid.specs.declared.Grid.{Grid as GridStruct}
use Rattle.place.specs.Problem.{Problem}
use Rattle.place.specs.Questions.{question6, question7, question8}
use Rattle.path_laws.specs.Demand.{Accepted}
use Rattle.marks.specs.Reading.{problem_from, Readable}

-- questions 5 to 8, which a run asks on an accepted grid
abbrev pub later_run_questions : Problem → ℕ → List Question
later_run_questions p room = question5 p.grid p.start ∷ question6 p ∷ question7 p ∷ question8 p.grid room ∷ []

-- what a run asks behind the questions
pub record CanRun (g : GridStruct) (binomials start labels answer : List ℕ) : Type 0 where
  pub readable : Readable g binomials labels
  pub accepted : Accepted (problem_from g start labels)
  pub room : suc (dimension (shape g)) * num_indices (shape g) ≤ length answer
