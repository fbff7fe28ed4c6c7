-- "Three loss tables are built in, copied from the appendix of document 000". A line for each row of the appendix.
-- Assumes nothing.
use Rattle.std.specs.Prelude.{List, [], ◌∷◌, ◌&&◌, cond, ℕ, eqb, leb}
use Rattle.combinatorics.specs.Lists.{same}
use Rattle.questions.specs.Questions.{Question, ask}

-- "Game 1: N = 3, n_j + 1 = 2"
abbrev pub sizes1 : List ℕ
sizes1 = 2 ∷ 2 ∷ 2 ∷ []

unfoldable pub losses1 : List ℕ
losses1 =
    1 ∷ 2 ∷ 8 ∷ 5 ∷
    8 ∷ 8 ∷ 2 ∷ 2 ∷
    4 ∷ 2 ∷ 2 ∷ 1 ∷
    2 ∷ 6 ∷ 1 ∷ 3 ∷
    4 ∷ 1 ∷ 4 ∷ 2 ∷
    8 ∷ 8 ∷ 2 ∷ 1 ∷ []

-- "Game 2: N = 3, n_j + 1 = 3"
abbrev pub sizes2 : List ℕ
sizes2 = 3 ∷ 3 ∷ 3 ∷ []

unfoldable pub losses2 : List ℕ
losses2 =
    2 ∷ 3 ∷ 4 ∷ 2 ∷ 3 ∷ 3 ∷ 4 ∷ 1 ∷ 5 ∷
    1 ∷ 1 ∷ 4 ∷ 3 ∷ 4 ∷ 1 ∷ 6 ∷ 8 ∷ 2 ∷
    4 ∷ 7 ∷ 2 ∷ 4 ∷ 5 ∷ 5 ∷ 3 ∷ 6 ∷ 4 ∷
    5 ∷ 6 ∷ 7 ∷ 4 ∷ 8 ∷ 9 ∷ 3 ∷ 5 ∷ 1 ∷
    1 ∷ 1 ∷ 3 ∷ 3 ∷ 2 ∷ 1 ∷ 2 ∷ 2 ∷ 4 ∷
    2 ∷ 3 ∷ 6 ∷ 5 ∷ 3 ∷ 6 ∷ 7 ∷ 5 ∷ 8 ∷
    1 ∷ 3 ∷ 5 ∷ 1 ∷ 6 ∷ 2 ∷ 1 ∷ 2 ∷ 4 ∷
    2 ∷ 6 ∷ 5 ∷ 3 ∷ 3 ∷ 7 ∷ 8 ∷ 5 ∷ 5 ∷
    5 ∷ 2 ∷ 2 ∷ 4 ∷ 6 ∷ 5 ∷ 8 ∷ 1 ∷ 3 ∷ []

-- "Game 3: N = 4, n_j + 1 = 2"
abbrev pub sizes3 : List ℕ
sizes3 = 2 ∷ 2 ∷ 2 ∷ 2 ∷ []

unfoldable pub losses3 : List ℕ
losses3 =
    3 ∷ 3 ∷ 4 ∷ 2 ∷ 3 ∷ 3 ∷ 4 ∷ 1 ∷
    4 ∷ 1 ∷ 4 ∷ 3 ∷ 1 ∷ 1 ∷ 6 ∷ 8 ∷
    4 ∷ 6 ∷ 2 ∷ 4 ∷ 5 ∷ 3 ∷ 3 ∷ 6 ∷
    5 ∷ 2 ∷ 7 ∷ 4 ∷ 8 ∷ 6 ∷ 3 ∷ 5 ∷
    1 ∷ 6 ∷ 3 ∷ 3 ∷ 3 ∷ 3 ∷ 3 ∷ 2 ∷
    2 ∷ 2 ∷ 6 ∷ 5 ∷ 4 ∷ 6 ∷ 1 ∷ 5 ∷
    6 ∷ 3 ∷ 5 ∷ 1 ∷ 3 ∷ 2 ∷ 3 ∷ 2 ∷
    2 ∷ 6 ∷ 5 ∷ 3 ∷ 4 ∷ 7 ∷ 1 ∷ 5 ∷ []

-- the sizes and the losses of a game by its number
abbrev pub game_sizes : ℕ → List ℕ
game_sizes game = cond (eqb game 1) sizes1 (cond (eqb game 2) sizes2 sizes3)

abbrev pub game_losses : ℕ → List ℕ
game_losses game = cond (eqb game 1) losses1 (cond (eqb game 2) losses2 losses3)

-- "Is the game 1, 2 or 3, with these sizes? 15"
abbrev pub question15 : ℕ → List ℕ → Question
question15 game sizes = ask 15 (leb 1 game && leb game 3 && same eqb sizes (game_sizes game))
