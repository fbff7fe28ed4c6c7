-- Document 01, "Questions in order": those of a game labelling, and its answer. Assumes nothing.
use Rattle.std.specs.Prelude.{cond, List, [], ◌∷◌, ◌++◌, ℕ, eqb, length}
use Rattle.combinatorics.specs.Front.{front}
use Rattle.grid_points.specs.Grid.{Grid, num_points, lent}
use Rattle.questions.specs.Questions.{Question, ask, first_no}
use Rattle.grid_points.specs.Questions.{grid_questions}
use Rattle.game_losses.specs.Game.{labels}
use Rattle.game_losses.specs.Table.{question10, question11}
use Rattle.game_labels.specs.declared.Labelled.{Labelled}
use Rattle.game_labels.specs.declared.Labelled.TheVariants.{Refused, Written}

-- "Has the label buffer exactly P bytes? 12"
abbrev pub question12 : Grid → List ℕ → Question
question12 g buffer = ask 12 (eqb (length buffer) (num_points g))

-- "A game labelling asks 1 to 4, then 10 to 12"
abbrev pub label_questions : Grid → List ℕ → List ℕ → List Question
label_questions g losses buffer = grid_questions g ++ (question10 g losses ∷ question11 losses ∷ question12 g buffer ∷ [])

-- "A refusal returns its number and no count"; else "the result gives how much was written"
unfoldable pub labelled_of : Grid → List Question → Labelled
labelled_of g questions = let number = first_no questions in cond (eqb number 0) (Written (num_points g)) (Refused number)

-- a refusal "changes no buffer. What a call does write stands at the front of its buffer, old contents behind"
unfoldable pub left_in : Grid → List Question → List ℕ → List ℕ → List ℕ
left_in g questions losses buffer = cond (eqb (first_no questions) 0) (front (labels g losses) buffer) buffer

-- the answer of a labelling and what it leaves in the buffer, by what is lent
abbrev pub label_answer : List ℕ → List ℕ → List ℕ → List ℕ → Labelled
label_answer sizes divisions losses buffer =
    let g = lent sizes divisions in
    labelled_of g (label_questions g losses buffer)

abbrev pub label_buffer : List ℕ → List ℕ → List ℕ → List ℕ → List ℕ
label_buffer sizes divisions losses buffer =
    let g = lent sizes divisions in
    left_in g (label_questions g losses buffer) losses buffer
