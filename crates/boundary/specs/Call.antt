-- Request 12, the call: its answer and what it leaves in the label buffer, on every exit. Assumes nothing.
use Rattle.std.specs.Prelude.{cond, List, [], ◌∷◌, ◌++◌, ℕ, eqb}
use Rattle.questions.specs.Questions.{Question, first_no}
use Rattle.grid_points.specs.Grid.{Grid, lent}
use Rattle.grid_points.specs.Questions.{grid_questions}
use Rattle.place.specs.Questions.{question6, question7}
use Rattle.check_simplices.specs.Simplices.{labelled_by}
use Rattle.game_labels.specs.Labelling.{labelled_of, question12}
use Rattle.game_labels.specs.declared.Labelled.{Labelled}
use Rattle.boundary_labels.specs.Boundary.{boundary_table}

-- those behind 1 to 4: 6 and 7 of the old table, whose every byte is asked, also those written over, and 12 of the
-- buffer
abbrev pub lent_questions : Grid → List ℕ → List ℕ → List Question
lent_questions g old buffer = question6 (labelled_by g old) ∷ question7 (labelled_by g old) ∷ question12 g buffer ∷ []

-- "It puts 1 to 4, 6, 7 and 12"
abbrev pub boundary_questions : Grid → List ℕ → List ℕ → List Question
boundary_questions g old buffer = grid_questions g ++ lent_questions g old buffer

-- a refusal "changes no buffer"; else the buffer, which has P bytes, is the new table
unfoldable pub table_or_old : Grid → List Question → List ℕ → List ℕ → List ℕ
table_or_old g questions old buffer = cond (eqb (first_no questions) 0) (boundary_table g old) buffer

-- the answer, a refusal's number or how much was written, and what is left in the buffer, by what is lent
abbrev pub boundary_answer : List ℕ → List ℕ → List ℕ → List ℕ → Labelled
boundary_answer sizes divisions old buffer =
    let g = lent sizes divisions in labelled_of g (boundary_questions g old buffer)

abbrev pub boundary_buffer : List ℕ → List ℕ → List ℕ → List ℕ → List ℕ
boundary_buffer sizes divisions old buffer =
    let g = lent sizes divisions in table_or_old g (boundary_questions g old buffer) old buffer
