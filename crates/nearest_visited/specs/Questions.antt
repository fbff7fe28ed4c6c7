-- Request 11: the questions before the run. Assumes nothing.
use Rattle.std.specs.Prelude.{List, [], ◌∷◌, ◌++◌, ℕ, leb}
use Rattle.questions.specs.Questions.{Question, ask}
use Rattle.grid_points.specs.Grid.{Grid, Point, num_points}
use Rattle.grid_points.specs.Questions.{grid_questions, question5}
use Rattle.place.specs.Problem.{Problem}
use Rattle.place.specs.Questions.{question6, question7, question8}

-- "8 also wants room for P 16-bit positions in the list's own buffer"
abbrev pub question8_list : Grid → ℕ → Question
question8_list g room = ask 8 (leb (num_points g) room)

-- the questions of a run behind 1 to 4, where "Question 5 is put for w too", for an answer buffer of `room` numbers and
-- a list of `list_room`
abbrev pub point_questions : Problem → Point → ℕ → ℕ → List Question
point_questions p w room list_room =
    question5 p.grid p.start
    ∷ question5 p.grid w
    ∷ question6 p
    ∷ question7 p
    ∷ question8 p.grid room
    ∷ question8_list p.grid list_room
    ∷ []

abbrev pub near_questions : Problem → Point → ℕ → ℕ → List Question
near_questions p w room list_room = grid_questions p.grid ++ point_questions p w room list_room
