-- Questions 5 to 7, on a grid that was made. Assumes nothing.
use Rattle.std.specs.Prelude.{List, [], ◌∷◌, ℕ}
use Rattle.grid_points.specs.Questions.{question5}
use Rattle.grid.specs.declared.Grid.{Grid as GridStruct}
use Rattle.marks.specs.Reading.{problem_from}
use Rattle.place.specs.Questions.{question6, question7}
use Rattle.questions.specs.Questions.{Question}

abbrev pub later_walk_questions : GridStruct → List ℕ → List ℕ → List Question
later_walk_questions g start labels = let p = problem_from g start labels in
    question5 p.grid p.start ∷ question6 p ∷ question7 p ∷ []
