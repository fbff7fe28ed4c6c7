-- Questions 5, 10, 11, 12 and 8 as the program puts them. The promise of a refinement does not cite it. Assumes
-- nothing.
use Rattle.std.specs.Prelude.{List, [], ◌∷◌, ℕ, eqb}
use Rattle.grid_points.specs.Grid.{Grid}
use Rattle.grid_points.specs.Questions.{question5}
use Rattle.refinement_levels.specs.Questions.{level_question8}
use Rattle.game_losses.specs.Table.{question10, question11}
use Rattle.questions.specs.Questions.{Question, ask}

-- with the last level's P as a number, and how long both buffers are
abbrev pub asked_behind : Grid → ℕ → List ℕ → List ℕ → ℕ → ℕ → ℕ → List Question
asked_behind g points start losses levels label_room room =
    question5 g start
    ∷ question10 g losses
    ∷ question11 losses
    ∷ ask 12 (eqb label_room points)
    ∷ level_question8 g levels room
    ∷ []
