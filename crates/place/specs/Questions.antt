-- Document 01, "Questions in order": the questions about a label table and an answer buffer, and those of a run.
-- Assumes nothing.
use Rattle.std.specs.Prelude.{List, [], ◌∷◌, ◌++◌, ℕ, suc, ◌*◌, eqb, leb, length}
use Rattle.combinatorics.specs.Lists.{all}
use Rattle.questions.specs.Questions.{Question, ask}
use Rattle.grid_points.specs.Grid.{Grid, dimension, num_indices, num_points}
use Rattle.grid_points.specs.Questions.{grid_questions, question5}
use Rattle.place.specs.Problem.{Problem}

-- "Has the label table exactly P bytes? 6"
abbrev pub question6 : Problem → Question
question6 p = ask 6 (eqb (length p.labels) (num_points p.grid))

-- "Is every byte of it, on the path or off, from" 0 "to m? 7": request 02, "question 7 accepts 0 to m"
abbrev pub question7 : Problem → Question
question7 p = ask 7 (all (λ l. leb l (num_indices p.grid)) p.labels)

-- "Has the answer buffer at least (n + 1) times m numbers? 8"
abbrev pub question8 : Grid → ℕ → Question
question8 g room = ask 8 (leb (suc (dimension g) * num_indices g) room)

-- questions 1 to 7
abbrev pub table_questions : Problem → List Question
table_questions p = grid_questions p.grid ++ (question5 p.grid p.start ∷ question6 p ∷ question7 p ∷ [])

-- "A run asks 1 to 9": those before it moves, for an answer buffer of `room` numbers
abbrev pub run_questions : Problem → ℕ → List Question
run_questions p room = table_questions p ++ (question8 p.grid room ∷ [])
