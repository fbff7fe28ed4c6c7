-- Request 05: the questions of a refinement, in their order. Assumes nothing.
use Rattle.std.specs.Prelude.{◌&&◌, List, [], ◌∷◌, ◌++◌, ℕ, suc, pred, ◌*◌, leb}
use Rattle.combinatorics.specs.Lists.{concat_map, up_from}
use Rattle.game_labels.specs.Labelling.{question12}
use Rattle.grid_points.specs.Grid.{Grid, dimension, num_indices}
use Rattle.grid_points.specs.Questions.{grid_questions, question5}
use Rattle.game_losses.specs.Table.{question10, question11}
use Rattle.questions.specs.Questions.{Question, ask}
use Rattle.refinement_levels.specs.Levels.{Refinement, grid_at, level_grid}

-- "18 when k is not from 2 to 10 or the number of levels not from 1 to 8"
abbrev pub question18 : ℕ → ℕ → Question
question18 k levels = ask 18 (leb 2 k && leb k 10 && (leb 1 levels && leb levels 8))

-- "Questions 1 to 4 for all levels"
abbrev pub level_questions : Grid → ℕ → ℕ → List Question
level_questions g k levels = concat_map (λ i. grid_questions (grid_at g k i)) (up_from 0 levels)

-- the grid of the last of some levels
abbrev pub last_grid : Refinement → ℕ → Grid
last_grid r levels = level_grid r (pred levels)

-- "(n + 1) times m"
abbrev pub level_room : Grid → ℕ
level_room g = suc (dimension g) * num_indices g

-- "8 asks for (n + 1) times m numbers per level"
abbrev pub level_question8 : Grid → ℕ → ℕ → Question
level_question8 g levels room = ask 8 (leb (levels * level_room g) room)

-- "then 5, 10, 11, 12 and 8"; "The label buffer must have exactly the last level's P bytes (12)"
abbrev pub later_level_questions : Refinement → ℕ → List ℕ → ℕ → List Question
later_level_questions r levels buffer room =
    question5 r.grid r.start
    ∷ question10 r.grid r.losses
    ∷ question11 r.losses
    ∷ question12 (last_grid r levels) buffer
    ∷ level_question8 r.grid levels room
    ∷ []

-- "18 .. put before 1"
abbrev pub refine_questions : Refinement → ℕ → List ℕ → ℕ → List Question
refine_questions r levels buffer room =
    question18 r.factor levels ∷ level_questions r.grid r.factor levels
    ++ later_level_questions r levels buffer room
