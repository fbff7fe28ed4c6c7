-- Solving on fine grids: the questions, in their order. Assumes nothing.
use Rattle.std.specs.Prelude.{◌&&◌, List, [], ◌∷◌, ◌++◌, map, ℕ, leb}
use Rattle.combinatorics.specs.Lists.{all, up_from}
use Rattle.game_losses.specs.Game.{product}
use Rattle.game_losses.specs.Table.{question10, question11}
use Rattle.grid_points.specs.Grid.{Grid}
use Rattle.grid_points.specs.Questions.{question1, question2, question3, question5}
use Rattle.place.specs.Questions.{question8}
use Rattle.questions.specs.Questions.{Question, ask}
use Rattle.refinement_levels.specs.Levels.{Refinement, grid_at}

-- "18": k is from 2 to 10, and "Levels are from 1 to 16"
abbrev pub solve_question18 : ℕ → ℕ → Question
solve_question18 k levels = ask 18 (leb 2 k && leb k 10 && (leb 1 levels && leb levels 16))

-- "Divisions up to 60,000 are taken, and the product of those of a level up to 9,000,000,000,000,000; 24 when one of
-- some level is larger"
abbrev pub question24 : Grid → Question
question24 g = ask 24 (all (λ d. leb d 60000) g.divisions && leb (product g.divisions) 9000000000000000)

-- "put for all levels"
abbrev pub limit_questions : Grid → ℕ → ℕ → List Question
limit_questions g k levels = map (λ i. question24 (grid_at g k i)) (up_from 0 levels)

-- "where 4 is put": 1 to 3 are the same at every level
abbrev pub shape_questions : Grid → List Question
shape_questions g = question1 g ∷ question2 g ∷ question3 g ∷ []

-- then 5, 10, 11 and 8: "The answer buffer has (n + 1) times m numbers (8)"
abbrev pub later_questions : Refinement → ℕ → List Question
later_questions r room =
    question5 r.grid r.start
    ∷ question10 r.grid r.losses
    ∷ question11 r.losses
    ∷ question8 r.grid room
    ∷ []

abbrev pub solve_questions : Refinement → ℕ → ℕ → List Question
solve_questions r levels room =
    solve_question18 r.factor levels
    ∷ shape_questions r.grid
    ++ (limit_questions r.grid r.factor levels ++ later_questions r room)
